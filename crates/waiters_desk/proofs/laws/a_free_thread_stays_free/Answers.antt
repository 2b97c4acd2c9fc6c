use Rattle.waiters_desk.proofs.Surviving.{free_accessed}
use Rattle.waiters_desk.proofs.laws.a_free_thread_stays_free.Goals as goal

pub returns : goal.returns
returns c loses opening limit n right event reply before after isnt did free = free_accessed loses opening limit n right event before after isnt free reply did
