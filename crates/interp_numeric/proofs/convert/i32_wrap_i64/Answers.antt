use Rattle.std.proofs.lemmas.Nat.{and_mask}
use Rattle.interp_numeric.specs.Integers.{wrap}
use Rattle.interp_numeric.proofs.convert.i32_wrap_i64.Goals as goal

pub returns : goal.returns
unfolding wrap
returns c = and_mask c.args.operand 32
