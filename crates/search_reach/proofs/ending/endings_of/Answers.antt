use Rattle.std.proofs.Common.{length, refl, subst}
use Rattle.indexmap.specs.IndexSet.{index_set_len}
use Rattle.search_reach.specs.Told.{Obeys}
use Rattle.search_reach.proofs.Telling.{still-obeys}
use Rattle.search_reach.proofs.ending.endings_of.Goals as goal

pub returns-clause-obeys : goal.returns-clause-obeys
returns-clause-obeys g c =
    let f = c.args.follower.now in
    let was = g.F.Follows.wish f in
    let at = g.F.Follows.told_at f in
    still-obeys c.conclude.result (g.F.Follows.wish c.conclude.new.follower) (g.F.Follows.told_at c.conclude.new.follower) _ c.conclude.ensures.obeys
    (λ before. Obeys before was at c.args.found.verdict (index_set_len c.args.found.met))
    (λ before is ks held. subst (λ l. Obeys before was at c.args.found.verdict (length l)) held is)

pub conclude-requires : goal.conclude-requires
conclude-requires g c = record {
  states = c.args.found.met.keys;
  held = refl;
  found = c.requires.found;
  whole = c.requires.whole;
  moved = c.requires.moved;
  seeks = c.requires.seeks;
  gone_through = c.requires.levels;
}
