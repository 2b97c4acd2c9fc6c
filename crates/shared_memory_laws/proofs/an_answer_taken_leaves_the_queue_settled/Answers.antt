use Rattle.shared_memory_laws.proofs.Awake.{left_settled}
use Rattle.shared_memory_laws.proofs.an_answer_taken_leaves_the_queue_settled.Goals as goal

pub returns : goal.returns
returns c = left_settled
