use Rattle.schedule_examples.proofs.schedules.a_worked_run.Goals as goal
use Rattle.schedule_examples.proofs.Worked.{worked}

pub returns : goal.returns
returns c = worked
