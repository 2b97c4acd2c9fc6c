use Rattle.shared_memory_laws.proofs.Settled.{sleeps_for_good}
use Rattle.shared_memory_laws.proofs.asleep_for_good_only_where_no_timeout_is_left.Goals as goal

pub returns : goal.returns
returns c = sleeps_for_good
