use Rattle.search_reach.specs.Meeting.{OfStates}
use Rattle.search_reach.proofs.Passing.{PassedTo}
use Rattle.search_reach.proofs.seeking.has_sought.Given as goal

abbrev pub invariant-loop-at : goal.invariant-loop-at
invariant-loop-at g l = OfStates (g.T.Meets.system l.system) (g.T.Meets.holds l.system l.table)
    (PassedTo (g.T.Meets.system l.system) (g.Q.Seeks.sought l.sought) l.from l.at)
