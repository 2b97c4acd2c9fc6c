use Rattle.live_locals.proofs.Dead.{dead}
use Rattle.live_locals.proofs.laws.dead_locals_do_not_count.Goals as goal

pub returns : goal.returns
returns c = dead
