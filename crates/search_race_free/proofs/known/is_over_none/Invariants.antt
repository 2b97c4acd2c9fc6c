use Rattle.std.proofs.Common.{◌<◌}
use Rattle.search_race_free.specs.declared.owning.Touch.{Touch}
use Rattle.search_race_free.specs.Touches.{IsOver}
use Rattle.search_race_free.proofs.known.is_over_none.Given as goal

abbrev pub invariant-loop-other : goal.invariant-loop-other
invariant-loop-other l = record { missed : (x : Touch) → x.thread < l.other → IsOver l.wanted l.n l.access x → ⊥ }
