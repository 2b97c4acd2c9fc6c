use Rattle.replay.proofs.Schedules.{runs_end_in_one_memory}
use Rattle.replay.proofs.verdicts.runs_end_in_one_memory.Goals as goal

pub returns : goal.returns
returns c = runs_end_in_one_memory
