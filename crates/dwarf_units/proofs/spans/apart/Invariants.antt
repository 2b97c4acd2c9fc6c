use Rattle.std.proofs.Common.{All}
use Rattle.dwarf_units.specs.Spans.{AreInOrder, EndsBy}
use Rattle.dwarf_units.proofs.spans.apart.Given as goal

abbrev pub invariant-loop-span : goal.invariant-loop-span
invariant-loop-span l = record { in_order : AreInOrder l.apart.items; ends : All (EndsBy l.end) l.apart.items }
