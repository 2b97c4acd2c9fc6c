use Rattle.std.proofs.Common.{arith}
use Rattle.std.proofs.lemmas.Grind.{common_steps}
use Rattle.types.proofs.within.imported_functions.Goals as goal

pub loop-import-preserved : goal.loop-import-preserved
loop-import-preserved c = grind (arith, common_steps)

pub returns : goal.returns
returns c = grind (arith, common_steps)
