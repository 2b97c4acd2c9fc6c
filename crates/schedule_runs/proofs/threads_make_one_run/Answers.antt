use Rattle.schedule_runs.proofs.Running.{threads_make_one_run}
use Rattle.schedule_runs.proofs.threads_make_one_run.Goals as goal

pub returns : goal.returns
returns c = threads_make_one_run
