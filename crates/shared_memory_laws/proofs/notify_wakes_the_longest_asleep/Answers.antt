use Rattle.shared_memory_laws.proofs.Notified.{notify_wakes}
use Rattle.shared_memory_laws.proofs.notify_wakes_the_longest_asleep.Goals as goal

pub returns : goal.returns
returns c = notify_wakes
