use Rattle.std.proofs.Common.{subst}
use Rattle.search_parts.specs.Walkers.{StandsForThread}
use Rattle.search_parts.proofs.walker.RestingThread.copy.Goals as goal

pub returns-in_ok-copy-in-Going : goal.returns-in_ok-copy-in-Going
returns-in_ok-copy-in-Going c = λ w v stands.
    let is = subst (λ s. StandsForThread w s v) c.in-Going.is stands in
    let kept = is.2.1 in (
      is.0,
      is.1,
      (
        is.2.0,
        record { state = kept.state; stands = kept.stands; is_of = c.in_ok-copy-in-Going.ensures.same kept.state kept.is_of },
        is.2.2,
      ),
      is.3,
    )
