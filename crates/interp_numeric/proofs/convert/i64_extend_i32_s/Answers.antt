use Rattle.std.proofs.Common.{arith}
use Rattle.std.specs.Int.{w32, w64}
use Rattle.interp_numeric.proofs.convert.i64_extend_i32_s.Goals as goal
use Rattle.interp_numeric.proofs.Machine.{extended}

pub returns : goal.returns
returns c = extended w32 w64 _ _ _ _ (omega arith) (omega arith) c.cast_signed.ensures c.from.ensures c.cast_unsigned.ensures
