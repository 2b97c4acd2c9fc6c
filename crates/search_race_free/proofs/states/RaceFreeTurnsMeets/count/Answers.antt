use Rattle.std.proofs.Common.{sym, ◌∙◌}
use Rattle.search_race_free.proofs.Held.{owning-count, owning-distinct}
use Rattle.search_race_free.proofs.states.RaceFreeTurnsMeets.count.Goals as goal

pub returns-clause-len : goal.returns-clause-len
returns-clause-len g c ks has = owning-count c.args.tables.now.met ks has.owning c.len-2.result c.len-2.ensures

pub returns-clause-distinct : goal.returns-clause-distinct
returns-clause-distinct g c ks has =
    owning-distinct g.M.Shared.PartialEq.eq g.M.Thread.PartialEq.eq
    (λ x y e. sym (g.met.M.Shared.Eq.laws.symm x y) ∙ e) (λ x y e. sym (g.met.M.Thread.Eq.laws.symm x y) ∙ e)
    c.args.tables.now.met c.len.ensures ks has.owning
