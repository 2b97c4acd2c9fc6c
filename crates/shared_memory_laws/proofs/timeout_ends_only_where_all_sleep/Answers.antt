use Rattle.shared_memory_laws.proofs.Settled.{timeout_ends}
use Rattle.shared_memory_laws.proofs.timeout_ends_only_where_all_sleep.Goals as goal

pub returns : goal.returns
returns c = timeout_ends
