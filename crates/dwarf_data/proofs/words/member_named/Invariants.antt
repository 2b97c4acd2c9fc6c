use Rattle.std.proofs.Common.{All}
use Rattle.dwarf_data.specs.Within.{IsWithin}
use Rattle.dwarf_data.proofs.words.member_named.Given as goal

abbrev pub invariant-loop-next : goal.invariant-loop-next
invariant-loop-next l = All (λ p. IsWithin l.fn.part.place p.place) l.parts.items

abbrev pub invariant-loop-member : goal.invariant-loop-member
invariant-loop-member l = All (λ p. IsWithin l.fn.part.place p.place) l.parts.items
