use Rattle.std.proofs.Common.{sym, ◌∙◌, arith}
use Rattle.interp_numeric.proofs.wide.i64_unary.Goals as goal
use Rattle.interp_numeric.proofs.Counts.{iclz-is, ictz-is, ipopcnt-is}

pub returns-in-Clz : goal.returns-in-Clz
returns-in-Clz c = rw c.in-Clz.is (c.from.ensures ∙ sym (iclz-is 64 c.args.operand (omega arith)))

pub returns-in-Ctz : goal.returns-in-Ctz
returns-in-Ctz c = rw c.in-Ctz.is (c.from-in-Ctz.ensures ∙ sym (ictz-is 64 c.args.operand))

pub returns-in-Popcnt : goal.returns-in-Popcnt
returns-in-Popcnt c = rw c.in-Popcnt.is (c.from-in-Popcnt.ensures ∙ sym (ipopcnt-is 64 c.args.operand (omega arith)))
