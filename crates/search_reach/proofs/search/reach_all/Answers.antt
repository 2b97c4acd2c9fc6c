use Rattle.std.proofs.Common.{length, refl, sym, subst}
use Rattle.search_reach.specs.Sought.{SeeksAmong}
use Rattle.search_reach.specs.Levels.{HasGoneThrough}
use Rattle.search_reach.specs.Moved.{IsMoved}
use Rattle.search_reach.specs.Ways.{AreNumbered}
use Rattle.search_reach.proofs.search.reach_all.Goals as goal

pub returns-clause-seeks : goal.returns-clause-seeks
returns-clause-seeks g c =
    let r = c.in_ok-reached.ensures.reached in
    subst (λ l. SeeksAmong (g.T.Explores.system c.args.system.now) (g.Q.Seeks.sought c.args.plan.now.sought)
    c.in_ok-reached.reached.verdict l) (sym r.held) r.seeks

pub returns-clause-levels : goal.returns-clause-levels
returns-clause-levels g c =
    let r = c.in_ok-reached.ensures.reached in
    subst (λ l. HasGoneThrough (g.T.Explores.system c.args.system.now) l c.in_ok-reached.reached.levels) (sym r.held) r.gone_through

pub returns-clause-obeys : goal.returns-clause-obeys
returns-clause-obeys g c = c.in_ok-reached.ensures.obeys c.in_ok-reached.reached.table.keys refl

pub returns-clause-moved : goal.returns-clause-moved
returns-clause-moved g c =
    let r = c.in_ok-reached.ensures.reached in
    let reached = c.in_ok-reached.reached in
    subst (λ l. AreNumbered reached.verdict (length l) → IsMoved (g.T.Explores.system c.args.system.now) g.T.State.PartialEq.eq l reached.moves.items)
    (sym r.held) r.moved
