use Rattle.search_reach.specs.Search.{Ended}
use Rattle.search_reach.specs.Meeting.{OfStates}
use Rattle.search_reach.specs.Moved.{AreFirsts}
use Rattle.search_reach.proofs.ending.endings.Given as goal

abbrev pub invariant-loop-at : goal.invariant-loop-at
invariant-loop-at g l = record {
  ended : OfStates (g.T.Meets.system l.system) (g.T.Meets.holds l.system l.table)
      (λ ks. Ended (g.T.Meets.system l.system) g.T.Ending.PartialEq.eq ks l.at l.endings.keys l.ended.items);
  firsts : OfStates (g.T.Meets.system l.system) (g.T.Meets.holds l.system l.table)
      (λ ks. AreFirsts (g.T.Meets.system l.system) ks l.firsts.items l.endings.keys);
}
