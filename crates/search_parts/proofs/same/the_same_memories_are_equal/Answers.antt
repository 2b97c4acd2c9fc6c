use Rattle.search_parts.proofs.Forms.{the_same_memory}
use Rattle.search_parts.proofs.same.the_same_memories_are_equal.Goals as goal

pub returns : goal.returns
returns c = the_same_memory
