use Rattle.search_ample.proofs.Bundles.{bundles-are-independent}
use Rattle.search_ample.proofs.laws.steps_are_independent.Goals as goal

pub returns : goal.returns
returns g c = λ laws. bundles-are-independent (g.T.TurningThreads.system c.args.threads.now) laws
