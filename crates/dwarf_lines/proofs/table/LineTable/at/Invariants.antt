use Rattle.std.proofs.Common.{◌≡◌, find, drop}
use Rattle.dwarf_lines.specs.Lines.{holds}
use Rattle.dwarf_lines.proofs.table.LineTable.at.Given as goal

abbrev pub invariant-loop-range : goal.invariant-loop-range
invariant-loop-range l = find (holds l.offset) (drop l.range-index l.self.ranges.items) ≡ find (holds l.offset) l.self.ranges.items
