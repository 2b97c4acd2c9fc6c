use Rattle.search_runs.proofs.nobody_goes_on_in_the_end.Goals as goal
use Rattle.search_runs.proofs.Accessing as laws

pub returns : goal.returns
returns c = laws.finished
