use Rattle.waiters_desk.proofs.Locks.{reads_after}
use Rattle.waiters_desk.proofs.laws.a_wait_after_a_notify_reads_what_the_notifier_saw.Goals as goal

pub returns : goal.returns
returns c = reads_after
