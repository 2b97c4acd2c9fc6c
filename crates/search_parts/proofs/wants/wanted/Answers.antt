use Rattle.std.proofs.Common.{subst}
use Rattle.search_parts.specs.Walkers.{StandsForThread}
use Rattle.search_parts.proofs.wants.wanted.Goals as goal

pub returns-in-Going-clause-wanted : goal.returns-in-Going-clause-wanted
returns-in-Going-clause-wanted c w b v of stands =
    let is = subst (λ s. StandsForThread w s v) c.in-Going.is stands in
    is.3.wanted b of

pub returns-in-Going-clause-event : goal.returns-in-Going-clause-event
returns-in-Going-clause-event c w v stands =
    let is = subst (λ s. StandsForThread w s v) c.in-Going.is stands in
    is.3.event
