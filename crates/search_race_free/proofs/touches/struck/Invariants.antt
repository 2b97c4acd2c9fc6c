use Rattle.std.proofs.Common.{take}
use Rattle.search_race_free.specs.Touches.{StrikesNobody}
use Rattle.search_race_free.proofs.touches.struck.Given as goal

abbrev pub invariant-loop-touch : goal.invariant-loop-touch
invariant-loop-touch l = record { missed : StrikesNobody (take l.touch-index l.owned) l.thread l.access }
