use Rattle.interp_numeric.proofs.Typed.{typed_results}
use Rattle.interp_numeric.proofs.laws.typed_results.Goals as goal

pub returns : goal.returns
returns c = typed_results
