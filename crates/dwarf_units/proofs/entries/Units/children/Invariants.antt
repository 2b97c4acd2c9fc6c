use Rattle.std.proofs.Common.{◌<◌, All, IfSome}
use Rattle.dwarf_units.proofs.entries.Units.children.Given as goal

abbrev pub invariant-loop : goal.invariant-loop
invariant-loop l = record { behind : All (λ child. l.entry < child) l.children.items; next_behind : IfSome l.next (λ child. l.entry < child) }
