use Rattle.interp_numeric.proofs.Signs.{unsigned-signed}
use Rattle.interp_numeric.proofs.laws.unsigned_of_signed.Goals as goal

pub returns : goal.returns
returns c = unsigned-signed
