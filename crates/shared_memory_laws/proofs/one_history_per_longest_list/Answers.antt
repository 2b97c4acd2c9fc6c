use Rattle.shared_memory.proofs.Histories.{prefixes_nest}
use Rattle.shared_memory_laws.proofs.one_history_per_longest_list.Goals as goal

pub returns : goal.returns
returns c = λ longest xs ys p q. prefixes_nest xs ys longest p q
