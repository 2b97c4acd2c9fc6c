use Rattle.std.proofs.Common.{sym, ◌∙◌, ap, subst}
use Rattle.search_runs.specs.Accesses.{is_plain, is_plain_code}
use Rattle.search_parts.specs.Walkers.{StandsForThread}
use Rattle.search_parts.proofs.plain.is_plain.Goals as goal

pub returns-in-Going : goal.returns-in-Going
returns-in-Going c = λ v stands.
    let is = subst (λ s. StandsForThread c.args.valid.now s v) c.in-Going.is stands in
    c.is_at_plain.ensures is.2.0 is.2.1 ∙ (ap is_plain_code is.2.2.frame.same.code ∙ ap is_plain (sym is.1))
