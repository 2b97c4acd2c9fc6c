use Rattle.schedule_examples.proofs.Together.{ran_together}
use Rattle.schedule_examples.proofs.schedules.two_threads_ran_together.Goals as goal

pub returns : goal.returns
returns c = ran_together
