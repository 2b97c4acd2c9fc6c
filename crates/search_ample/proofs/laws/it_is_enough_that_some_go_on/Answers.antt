use Rattle.search_ample.proofs.Finding.{footprints-hold, ends-are-found, wants-are-found, conflicts-are-found, all-come-back, all-can-go-on}
use Rattle.search_ample.proofs.laws.it_is_enough_that_some_go_on.Goals as goal

pub returns : goal.returns
returns g c =
    let k = g.T.SteppingThreads.system c.args.threads.now in
    let mean = g.T.SteppingThreads.meaning c.args.threads.now in
    record {
      footprints = λ e laws x ok. footprints-hold k laws mean e x ok;
      ends = λ e laws x ok. ends-are-found k laws mean e x ok;
      wants = λ e laws x ok. wants-are-found k laws mean e x ok;
      conflicts = λ e laws x ok. conflicts-are-found k laws mean e x ok;
      back = λ e laws x ok. all-come-back k laws mean e x ok;
      can = λ e laws x ok. all-can-go-on k laws mean e x ok;
    }
