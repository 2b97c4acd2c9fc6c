use Rattle.std.proofs.Common.{take}
use Rattle.search_race_free.specs.Touches.{AreOfOthers}
use Rattle.search_race_free.proofs.touches.of_others.Given as goal

abbrev pub invariant-loop-touch : goal.invariant-loop-touch
invariant-loop-touch l = record { others : AreOfOthers (take l.touch-index l.owned) l.thread l.others.items }
