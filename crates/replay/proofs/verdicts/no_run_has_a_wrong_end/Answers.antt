use Rattle.replay.proofs.Schedules.{no_run_has_a_wrong_end}
use Rattle.replay.proofs.verdicts.no_run_has_a_wrong_end.Goals as goal

pub returns : goal.returns
returns c = no_run_has_a_wrong_end
