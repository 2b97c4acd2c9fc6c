use Rattle.shared_memory_laws.proofs.Awake.{somebody_awake}
use Rattle.shared_memory_laws.proofs.somebody_alive_is_awake.Goals as goal

pub returns : goal.returns
returns c = somebody_awake
