use Rattle.schedule_threads.proofs.Threads.{system_laws}
use Rattle.schedule_threads.proofs.threads_over_memory_and_queue_keep_the_laws.Goals as goal

pub returns : goal.returns
returns g c = system_laws g.row.C.Denot
