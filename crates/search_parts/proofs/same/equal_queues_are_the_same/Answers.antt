use Rattle.search_parts.proofs.SharedParts.{same_queue}
use Rattle.search_parts.proofs.same.equal_queues_are_the_same.Goals as goal

pub returns : goal.returns
returns c = same_queue
