use Rattle.interp_numeric.proofs.Typed.{below_stays}
use Rattle.interp_numeric.proofs.laws.below_stays.Goals as goal

pub returns : goal.returns
returns c = below_stays
