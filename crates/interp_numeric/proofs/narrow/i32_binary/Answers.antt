use Rattle.std.proofs.Common.{Ok, sym, ap, arith}
use Rattle.std.specs.Int.{w32}
use Rattle.interp_numeric.proofs.narrow.i32_binary.Goals as goal
use Rattle.interp_numeric.proofs.Bitwise.{iand-is, ior-is, ixor-is}
use Rattle.interp_numeric.proofs.Machine.{added, subtracted, multiplied, divided, remaining, shifted_up, shifted_down, turned_left, turned_right}

pub returns-in-DivU : goal.returns-in-DivU
returns-in-DivU c = rw c.in-DivU.is (divided 32 _ _ _ _ c.checked_div.ensures c.ok_or.ensures.value)

pub returns-in-RemU : goal.returns-in-RemU
returns-in-RemU c = rw c.in-RemU.is (remaining 32 _ _ _ _ c.checked_rem.ensures c.ok_or-in-RemU.ensures.value)

pub returns-in-Add : goal.returns-in-Add
returns-in-Add c = rw c.in-Add.is (ap Ok (added 32 _ _))

pub returns-in-Sub : goal.returns-in-Sub
returns-in-Sub c = rw c.in-Sub.is (ap Ok (subtracted 32 _ _ (omega arith)))

pub returns-in-Mul : goal.returns-in-Mul
returns-in-Mul c = rw c.in-Mul.is (ap Ok (multiplied 32 _ _))

pub returns-in-And : goal.returns-in-And
returns-in-And c = rw c.in-And.is (ap Ok (sym (iand-is 32 _ _ (omega arith))))

pub returns-in-Or : goal.returns-in-Or
returns-in-Or c = rw c.in-Or.is (ap Ok (sym (ior-is 32 _ _ (omega arith) (omega arith))))

pub returns-in-Xor : goal.returns-in-Xor
returns-in-Xor c = rw c.in-Xor.is (ap Ok (sym (ixor-is 32 _ _ (omega arith) (omega arith))))

pub returns-in-Shl : goal.returns-in-Shl
returns-in-Shl c = rw c.in-Shl.is (ap Ok (shifted_up 32 _ _ (omega arith)))

pub returns-in-ShrU : goal.returns-in-ShrU
returns-in-ShrU c = rw c.in-ShrU.is (ap Ok (shifted_down 32 _ _ (omega arith) (omega arith)))

pub returns-in-Rotl : goal.returns-in-Rotl
returns-in-Rotl c = rw c.in-Rotl.is (ap Ok (turned_left w32 _ _ _ (omega arith) c.rotate_left.ensures))

pub returns-in-Rotr : goal.returns-in-Rotr
returns-in-Rotr c = rw c.in-Rotr.is (ap Ok (turned_right w32 _ _ _ (omega arith) c.rotate_right.ensures))
