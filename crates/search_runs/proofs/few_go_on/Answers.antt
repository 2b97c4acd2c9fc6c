use Rattle.search_runs.proofs.few_go_on.Goals as goal
use Rattle.search_runs.proofs.Accessing as laws

pub returns : goal.returns
returns c = laws.beyond
