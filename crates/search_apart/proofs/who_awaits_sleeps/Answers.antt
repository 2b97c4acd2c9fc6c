use Rattle.search_apart.proofs.Awaiting.{awaits-asleep}
use Rattle.search_apart.proofs.who_awaits_sleeps.Goals as goal

pub returns : goal.returns
returns c = awaits-asleep
