use Rattle.search_parts.proofs.Standings.{same_standing}
use Rattle.search_parts.proofs.same.equal_standings_are_the_same.Goals as goal

pub returns : goal.returns
returns c = same_standing
