use Rattle.replay.proofs.Schedules.{wrong_ends_are_of_no_run}
use Rattle.replay.proofs.verdicts.wrong_ends_are_of_no_run.Goals as goal

pub returns : goal.returns
returns c = wrong_ends_are_of_no_run
