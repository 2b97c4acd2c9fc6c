use Rattle.search_ample.proofs.Fair.{no-fair-run}
use Rattle.search_ample.proofs.Made.{fair-runs-are-made}
use Rattle.search_ample.proofs.laws.fair_runs_are_told.Goals as goal

pub returns : goal.returns
returns g c =
    let k = g.T.SteppingThreads.system c.args.threads.now in
    let mean = g.T.SteppingThreads.meaning c.args.threads.now in
    record { none = λ e laws x ok. no-fair-run k laws mean e x ok; made = λ e laws x. fair-runs-are-made k laws mean e x }
