use Rattle.search_ample.proofs.Made.{ends-are-exact, all-come-to-ends}
use Rattle.search_ample.proofs.laws.ends_are_told.Goals as goal

pub returns : goal.returns
returns g c =
    let k = g.T.SteppingThreads.system c.args.threads.now in
    let mean = g.T.SteppingThreads.meaning c.args.threads.now in
    record { exact = λ e laws x ok. ends-are-exact k laws mean e x ok; all = λ e laws x ok. all-come-to-ends k laws mean e x ok }
