use Rattle.search_scheduled.specs.Nowhere.{AreReportsBelow}
use Rattle.search_scheduled.proofs.concluding.ends_of.Given as goal

abbrev pub invariant-loop-n : goal.invariant-loop-n
invariant-loop-n g l = AreReportsBelow g.T.TakesTurns.meaning l.walk l.n l.ends.items
