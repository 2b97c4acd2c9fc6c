use Rattle.std.proofs.Common.{ap, ◌∙◌, arith}
use Rattle.std.specs.Int.{w8, w16, w32, w64}
use Rattle.types.specs.declared.value.Value.TheVariants.{I32, I64}
use Rattle.interp_numeric.specs.Integers.{wrap, extend_s}
use Rattle.interp_numeric.proofs.Machine.{extended_low}
use Rattle.interp_numeric.proofs.convert.sign_extended.Goals as goal

pub returns-in-I32Bits8 : goal.returns-in-I32Bits8
returns-in-I32Bits8 c = rw c.in-I32Bits8.is
    (ap I32 (extended_low w8 w32 c.args.number _ _ _ (omega arith) c.cast_signed-low.ensures c.from.ensures
    c.cast_unsigned.ensures))

pub returns-in-I32Bits16 : goal.returns-in-I32Bits16
returns-in-I32Bits16 c = rw c.in-I32Bits16.is
    (ap I32 (extended_low w16 w32 c.args.number _ _ _ (omega arith) c.cast_signed-low-in-I32Bits16.ensures
    c.from-in-I32Bits16.ensures c.cast_unsigned-in-I32Bits16.ensures))

pub returns-in-I64Bits8 : goal.returns-in-I64Bits8
returns-in-I64Bits8 c = rw c.in-I64Bits8.is
    (ap I64 (extended_low w8 w64 c.args.number _ _ _ (omega arith) c.cast_signed-low-in-I64Bits8.ensures
    c.from-in-I64Bits8.ensures c.cast_unsigned-in-I64Bits8.ensures))

pub returns-in-I64Bits16 : goal.returns-in-I64Bits16
returns-in-I64Bits16 c = rw c.in-I64Bits16.is
    (ap I64 (extended_low w16 w64 c.args.number _ _ _ (omega arith) c.cast_signed-low-in-I64Bits16.ensures
    c.from-in-I64Bits16.ensures c.cast_unsigned-in-I64Bits16.ensures))

pub returns-in-I64Bits32 : goal.returns-in-I64Bits32
unfolding wrap
returns-in-I64Bits32 c = rw c.in-I64Bits32.is (ap I64 (c.i64_extend_i32_s.ensures ∙ ap (extend_s 32 64) c.i32_wrap_i64.ensures))
