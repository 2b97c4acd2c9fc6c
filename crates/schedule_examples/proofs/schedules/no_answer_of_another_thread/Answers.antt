use Rattle.schedule_examples.proofs.schedules.no_answer_of_another_thread.Goals as goal
use Rattle.schedule_examples.proofs.Worked.{no_answer_of_another}

pub returns : goal.returns
returns c = no_answer_of_another
