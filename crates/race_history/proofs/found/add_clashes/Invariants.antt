use Rattle.std.proofs.Common.{take}
use Rattle.race_history.specs.Found.{HaveMore, IsClash}
use Rattle.race_history.proofs.found.add_clashes.Given as goal

abbrev pub invariant-loop-last : goal.invariant-loop-last
invariant-loop-last l = HaveMore l.initial.places.items l.places.items (IsClash l.access l.clock (take l.last-index l.list))
