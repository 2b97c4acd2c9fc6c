use Rattle.waiters_desk.proofs.Standing.{others_leave}
use Rattle.waiters_desk.proofs.laws.others_leave_a_thread_as_it_stands.Goals as goal

pub returns : goal.returns
returns c = others_leave
