use Rattle.search_parts.proofs.Forms.{the_same_standing}
use Rattle.search_parts.proofs.same.the_same_standings_are_equal.Goals as goal

pub returns : goal.returns
returns c = the_same_standing
