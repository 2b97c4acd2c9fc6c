use Rattle.search_reach.proofs.Telling.{obeys-still}
use Rattle.search_reach.proofs.ending.all_endings.Goals as goal

pub returns-clause-obeys : goal.returns-clause-obeys
returns-clause-obeys g c =
    obeys-still c.conclude.result (g.F.Follows.wish c.conclude.new.follower) (g.F.Follows.told_at c.conclude.new.follower) _ c.conclude.ensures.obeys
    (g.F.Follows.wish c.args.follower.now) c.in_ok-reached.ensures.obeys
