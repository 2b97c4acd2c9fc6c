use Rattle.live_kept.proofs.Walking.{walkers}
use Rattle.live_kept.proofs.walkers.walkers_go_alike.Goals as goal

pub returns : goal.returns
returns c = walkers
