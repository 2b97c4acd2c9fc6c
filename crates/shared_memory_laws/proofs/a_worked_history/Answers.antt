use Rattle.shared_memory_laws.proofs.Worked.{worked_history}
use Rattle.shared_memory_laws.proofs.a_worked_history.Goals as goal

pub returns : goal.returns
returns c = worked_history
