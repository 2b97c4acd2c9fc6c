use Rattle.shared_memory.proofs.Prefixes.{IsLegal-prefix}
use Rattle.shared_memory_laws.proofs.a_prefix_of_a_legal_history_is_legal.Goals as goal

pub returns : goal.returns
returns c = IsLegal-prefix
