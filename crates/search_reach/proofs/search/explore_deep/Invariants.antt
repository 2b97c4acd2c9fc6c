use Rattle.std.proofs.Common.{◌-◌, ◌≡◌}
use Rattle.search_reach.specs.declared.follows.Wish.TheVariants as wishes
use Rattle.search_reach.proofs.Stacking.{Deep}
use Rattle.search_reach.proofs.search.explore_deep.Given as goal

abbrev pub invariant-loop-at : goal.invariant-loop-at
invariant-loop-at g l = record {
  deep : Deep (g.T.Meets.system l.system) (g.T.Meets.equal l.system) (g.T.Meets.holds l.system l.table) (g.Q.Seeks.sought l.plan.sought) l.stack.items
      l.gone l.moves.items;
  wished : (g.F.Follows.wish l.fn.follower ≡ wishes.End → ⊥) → g.F.Follows.wish l.follower ≡ wishes.End → ⊥;
}

abbrev pub decreases-loop-at : goal.decreases-loop-at
decreases-loop-at g l = l.plan.most - l.gone
