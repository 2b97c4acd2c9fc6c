use Rattle.schedule_examples.proofs.schedules.another_schedule_gives_the_same.Goals as goal
use Rattle.schedule_examples.proofs.Worked.{another_schedule}

pub returns : goal.returns
returns c = another_schedule
