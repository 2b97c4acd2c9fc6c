use Rattle.std.proofs.Common.{◌≡◌, Bool, true, subst}
use Rattle.std.specs.Prelude.{◌↔◌}
use Rattle.std.proofs.lemmas.Result.{IfOk-weaker}
use Rattle.search_reach.specs.Search.{IsEnding}
use Rattle.search_reach.specs.Meeting.{OfStateAt}
use Rattle.search_reach.specs.Sought.{SaysOf}
use Rattle.search_reach.proofs.Passing.{says-none, says-some}
use Rattle.search_reach.proofs.seeking.is_sought_at.Goals as goal

pub returns-in_default : goal.returns-in_default
returns-in_default g c ks s held there met =
    let k = g.T.Meets.system c.args.system.now in
    says-none k (g.Q.Seeks.sought c.args.sought.now) s (subst (λ o. IsEnding k s o) c.in_default.is (c.in_ok-ending.ensures ks s held there met))

pub returns : goal.returns
returns g c =
    let m = c.args.system.now in
    let k = g.T.Meets.system m in
    let so = g.Q.Seeks.sought c.args.sought.now in
    IfOk-weaker c.is_sought.result (λ (is : Bool). (is ≡ true) ↔ so c.in-Some.ending)
    (λ (is : Bool). OfStateAt k (g.T.Meets.holds m c.args.table.now) c.args.at (λ ks s. SaysOf k so is s))
    (λ is told ks s held there met. says-some k so s c.in-Some.ending is told
    (subst (λ o. IsEnding k s o) c.in-Some.is (c.in_ok-ending.ensures ks s held there met))) c.is_sought.ensures
