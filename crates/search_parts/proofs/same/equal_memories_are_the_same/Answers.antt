use Rattle.search_parts.proofs.SharedParts.{same_memory}
use Rattle.search_parts.proofs.same.equal_memories_are_the_same.Goals as goal

pub returns : goal.returns
returns c = same_memory
