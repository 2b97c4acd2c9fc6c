use Rattle.std.proofs.Common.{take, All}
use Rattle.show_races.specs.Told.{AreAlike}
use Rattle.show_races.proofs.found.is_known.Given as goal

abbrev pub invariant-loop-at : goal.invariant-loop-at
invariant-loop-at l = All (λ s. AreAlike l.fn.shown l.fn.story s l.fn.race → ⊥) (take l.at l.known)
