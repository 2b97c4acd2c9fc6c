use Rattle.replay.proofs.Schedules.{no_run_has_a_misfit}
use Rattle.replay.proofs.verdicts.no_run_has_a_misfit.Goals as goal

pub returns : goal.returns
returns c = no_run_has_a_misfit
