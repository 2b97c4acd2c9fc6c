use Rattle.std.proofs.Common.{refl}
use Rattle.search_strategies.proofs.pct.Pct.named.Goals as goal

pub returns-clause-chosen : goal.returns-clause-chosen
returns-clause-chosen c =
    rw (c.in-Some.is, ← c.self.view_is, c.highest.ensures.value, c.set_rank.ensures, c.saturating_add-self-inside.ensures) (refl, refl)
