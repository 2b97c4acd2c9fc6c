use Rattle.search_runs.proofs.accesses_are_plain.Goals as goal
use Rattle.search_runs.proofs.Accessing as laws

pub returns : goal.returns
returns c = laws.plain
