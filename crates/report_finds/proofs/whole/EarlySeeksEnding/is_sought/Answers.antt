use Rattle.std.proofs.Common.{◌≡◌, ◌↔◌, Bool, true}
use Rattle.std.proofs.lemmas.Result.{IfOk-weaker}
use Rattle.search_finds.specs.Finds.{IsLookedFor}
use Rattle.report_finds.specs.Early.{IsSoughtBy}
use Rattle.report_finds.proofs.whole.EarlySeeksEnding.is_sought.Goals as goal

pub returns : goal.returns
returns c =
    IfOk-weaker c.is_looked_for.result (λ (is : Bool). (is ≡ true) ↔ IsLookedFor c.args.self.now.sought.now c.args.ending.now)
    (λ (is : Bool). (is ≡ true) ↔ IsSoughtBy c.args.self.now c.args.ending.now)
    (λ is h. (λ yes. (c.if-not-self.false, h.0 yes), λ so. h.1 so.1)) c.is_looked_for.ensures
