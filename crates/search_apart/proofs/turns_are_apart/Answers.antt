use Rattle.search_apart.proofs.Apart.{turns-are-apart}
use Rattle.search_apart.proofs.turns_are_apart.Goals as goal

pub returns : goal.returns
returns c = turns-are-apart
