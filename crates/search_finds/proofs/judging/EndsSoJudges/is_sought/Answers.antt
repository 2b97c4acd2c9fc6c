use Rattle.std.proofs.Common.{◌≡◌, ◌↔◌, true, subst}
use Rattle.std.proofs.lemmas.Result.{IfOk-weaker}
use Rattle.search_endings.specs.Endings.{Ending}
use Rattle.search_finds.specs.Finds.{IsLookedFor}
use Rattle.search_finds.proofs.EndsSo.{ends_so}
use Rattle.search_finds.proofs.judging.EndsSoJudges.is_sought.Goals as goal

pub returns : goal.returns
returns c =
    let s = c.args.self.now.sought.now in
    IfOk-weaker c.is_looked_for.result _ (ends_so s c.args.made.now)
    (λ is h. subst (λ (e : Ending). (is ≡ true) ↔ IsLookedFor s e) c.in_ok-ending.ensures h) c.is_looked_for.ensures
