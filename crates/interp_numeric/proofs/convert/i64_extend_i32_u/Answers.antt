use Rattle.std.proofs.Common.{rules}
use Rattle.interp_numeric.specs.Integers.{extend_u}
use Rattle.interp_numeric.proofs.convert.i64_extend_i32_u.Goals as goal

pub returns : goal.returns
unfolding extend_u
returns c = search rules
