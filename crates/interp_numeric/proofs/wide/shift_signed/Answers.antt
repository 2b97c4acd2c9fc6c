use Rattle.std.proofs.Common.{arith}
use Rattle.std.specs.Int.{w64}
use Rattle.interp_numeric.proofs.wide.shift_signed.Goals as goal
use Rattle.interp_numeric.proofs.Machine.{shifted_by_sign}

pub returns : goal.returns
returns c = shifted_by_sign w64 _ _ _ _ (omega arith) c.cast_signed.ensures c.cast_unsigned.ensures
