use Rattle.search_modules.proofs.returned.what_runs_return_is_reached.Goals as goal
use Rattle.search_modules.proofs.Returning as laws

pub returns : goal.returns
returns c = laws.what_runs_return_is_reached
