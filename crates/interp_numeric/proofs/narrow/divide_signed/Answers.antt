use Rattle.std.proofs.Common.{sym, arith}
use Rattle.std.specs.Int.{w32}
use Rattle.interp_numeric.proofs.narrow.divide_signed.Goals as goal
use Rattle.interp_numeric.proofs.Division.{idiv_s-zero, quotient_given, quotient_refused}

pub returns-then-right-eq0 : goal.returns-then-right-eq0
returns-then-right-eq0 c = sym (idiv_s-zero 32 _ _ c.if-right-eq0.true)

pub returns-in-Some : goal.returns-in-Some
returns-in-Some c = quotient_given w32 _ _ _ _ _ _ (omega arith)
    (omega arith) c.if-right-eq0.false c.cast_signed.ensures c.cast_signed-2.ensures c.in-Some.ensures
    c.cast_unsigned.ensures

pub returns-in-None : goal.returns-in-None
returns-in-None c = quotient_refused w32 _ _ _ _ (omega arith)
    (omega arith) c.if-right-eq0.false c.cast_signed.ensures c.cast_signed-2.ensures c.in-None.ensures
