use Rattle.search_apart.proofs.InCalls.{nobody-in-calls}
use Rattle.search_apart.proofs.nobody_is_stuck_in_calls.Goals as goal

pub returns : goal.returns
returns c = nobody-in-calls
