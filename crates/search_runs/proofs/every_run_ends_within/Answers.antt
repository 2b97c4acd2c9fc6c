use Rattle.search_runs.proofs.every_run_ends_within.Goals as goal
use Rattle.search_runs.proofs.Ending as laws

pub returns : goal.returns
returns c = laws.every_run_ends_within
