use Rattle.std.proofs.Common.{sym, ◌∙◌}
use Rattle.search_settled.proofs.Meeting.{counted}
use Rattle.search_settled.proofs.Rows.{states-distinct}
use Rattle.search_settled.proofs.states.TurnsMeets.count.Goals as goal

pub returns-clause-len : goal.returns-clause-len
returns-clause-len g c ks held =
    let m = c.args.self.now.system.now in
    counted (g.M.Moves.threads m) (g.M.Moves.ends m) (g.M.Moves.stuck m) c.args.tables.now ks held c.len-2.result c.len-2.ensures

pub returns-clause-distinct : goal.returns-clause-distinct
returns-clause-distinct g c ks held =
    let t = c.args.tables.now in
    states-distinct g.M.Shared.PartialEq.eq g.M.Thread.PartialEq.eq
    (λ x y e. sym (g.met.M.Shared.Eq.laws.symm x y) ∙ e) (λ x y e. sym (g.met.M.Thread.Eq.laws.symm x y) ∙ e)
    t.met.parts c.len.ensures t.states held.table ks held.are
