use Rattle.schedule_examples.proofs.schedules.no_entry_after_leave.Goals as goal
use Rattle.schedule_examples.proofs.Worked.{no_entry_after_leave}

pub returns : goal.returns
returns c = no_entry_after_leave
