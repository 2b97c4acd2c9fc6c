use Rattle.replay.proofs.Schedules.{agreeing_records_are_of_runs}
use Rattle.replay.proofs.verdicts.agreeing_records_are_of_runs.Goals as goal

pub returns : goal.returns
returns c = agreeing_records_are_of_runs
