use Rattle.std.proofs.Common.{◌≡◌}
use Rattle.search_strategies.specs.Priorities.{highest}
use Rattle.search_strategies.proofs.Drawing.{by_priority_is}
use Rattle.search_strategies.proofs.pct.PctStrategy.choose.Goals as goal

pub returns-clause-chosen : goal.returns-clause-chosen
returns-clause-chosen c =
    let at : c.highest-place.result ≡ highest c.args.self.now.ranks c.args.ready.now = rw (← c.self.view_is) c.highest-place.ensures.value in
    by_priority_is c.args.self.now c.args.ready.now c.highest-place.result _ _ _ _ at c.fall-fall.ensures.0 c.fall-fall.ensures.1
    c.named.ensures.chosen.0 c.named.ensures.chosen.1
