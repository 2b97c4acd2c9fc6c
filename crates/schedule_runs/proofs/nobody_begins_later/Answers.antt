use Rattle.schedule_runs.proofs.Later.{nobody_later}
use Rattle.schedule_runs.proofs.nobody_begins_later.Goals as goal

pub returns : goal.returns
returns c = nobody_later
