use Rattle.search_runs.proofs.threads_are_tame.Goals as goal
use Rattle.search_runs.proofs.Tame as laws

pub returns : goal.returns
returns c = laws.tame
