use Rattle.search_race_free.proofs.Overwriting.{OverSoFar}
use Rattle.search_race_free.proofs.touches.put_over.Given as goal

abbrev pub invariant-loop-other : goal.invariant-loop-other
invariant-loop-other l = OverSoFar l.wanted l.n l.access l.fn.touches.items l.other l.touches.items
