use Rattle.search_runs.proofs.every_end_is_scheduled.Goals as goal
use Rattle.search_runs.proofs.Tame as laws

pub returns : goal.returns
returns c = laws.scheduled
