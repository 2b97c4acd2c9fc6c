use Rattle.std.proofs.Common.{take}
use Rattle.search_race_free.specs.Touches.{ArePlainOf}
use Rattle.search_race_free.proofs.touches.are_plain.Given as goal

abbrev pub invariant-loop-touch : goal.invariant-loop-touch
invariant-loop-touch l = record { plain : ArePlainOf (take l.touch-index l.owned) l.thread }
