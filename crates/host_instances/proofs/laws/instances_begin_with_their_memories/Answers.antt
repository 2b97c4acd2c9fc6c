use Rattle.host_instances.proofs.Begins.{begins}
use Rattle.host_instances.proofs.laws.instances_begin_with_their_memories.Goals as goal

pub returns : goal.returns
returns c = begins
