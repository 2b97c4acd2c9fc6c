use Rattle.host_instances.proofs.Left.{left}
use Rattle.host_instances.proofs.laws.runs_leave_memories.Goals as goal

pub returns : goal.returns
returns c = left
