use Rattle.std.proofs.Common.{sym, arith}
use Rattle.interp_numeric.proofs.narrow.i32_unary.Goals as goal
use Rattle.interp_numeric.proofs.Counts.{iclz-is, ictz-is, ipopcnt-is}

pub returns-in-Clz : goal.returns-in-Clz
returns-in-Clz c = rw c.in-Clz.is (sym (iclz-is 32 c.args.operand (omega arith)))

pub returns-in-Ctz : goal.returns-in-Ctz
returns-in-Ctz c = rw c.in-Ctz.is (sym (ictz-is 32 c.args.operand))

pub returns-in-Popcnt : goal.returns-in-Popcnt
returns-in-Popcnt c = rw c.in-Popcnt.is (sym (ipopcnt-is 32 c.args.operand (omega arith)))
