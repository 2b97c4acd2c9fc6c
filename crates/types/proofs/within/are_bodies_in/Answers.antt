use Rattle.std.proofs.Common.{arith}
use Rattle.std.proofs.lemmas.Grind.{common_steps}
use Rattle.types.proofs.within.are_bodies_in.Goals as goal

pub returns-then-not-is_body_in : goal.returns-then-not-is_body_in
returns-then-not-is_body_in c = grind (arith, common_steps)

pub loop-i-preserved : goal.loop-i-preserved
loop-i-preserved c = grind (arith, common_steps)

pub returns : goal.returns
returns c = grind (arith, common_steps)
