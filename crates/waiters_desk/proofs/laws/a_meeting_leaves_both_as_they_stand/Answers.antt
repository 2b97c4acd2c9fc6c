use Rattle.waiters_desk.proofs.Standing.{meeting_leaves}
use Rattle.waiters_desk.proofs.laws.a_meeting_leaves_both_as_they_stand.Goals as goal

pub returns : goal.returns
returns c = meeting_leaves
