use Rattle.std.proofs.Common.{arith}
use Rattle.std.specs.Int.{w64}
use Rattle.types.specs.declared.operators.CompareOp.TheVariants as compare
use Rattle.interp_numeric.proofs.wide.i64_compare.Goals as goal
use Rattle.interp_numeric.proofs.wide.i64_compare.Goals.{in-Eq, in-Ne, in-LtS, in-LtU, in-GtS, in-GtU, in-LeS, in-LeU, in-GeS, in-GeU}
use Rattle.interp_numeric.proofs.Comparing.{compared}

pub returns : goal.returns
returns c = elim c.match-op.branch [
  | in-Eq w ↦ rw w.in-Eq.is (compared w64 compare.Eq _ _ _ _ _ _ (omega arith)
      (omega arith) c.cast_signed-signed_left.ensures c.cast_signed-signed_right.ensures c.from.ensures w.holds-is)
  | in-Ne w ↦ rw w.in-Ne.is (compared w64 compare.Ne _ _ _ _ _ _ (omega arith)
      (omega arith) c.cast_signed-signed_left.ensures c.cast_signed-signed_right.ensures c.from.ensures w.holds-is)
  | in-LtS w ↦ rw w.in-LtS.is (compared w64 compare.LtS _ _ _ _ _ _ (omega arith)
      (omega arith) c.cast_signed-signed_left.ensures c.cast_signed-signed_right.ensures c.from.ensures w.holds-is)
  | in-LtU w ↦ rw w.in-LtU.is (compared w64 compare.LtU _ _ _ _ _ _ (omega arith)
      (omega arith) c.cast_signed-signed_left.ensures c.cast_signed-signed_right.ensures c.from.ensures w.holds-is)
  | in-GtS w ↦ rw w.in-GtS.is (compared w64 compare.GtS _ _ _ _ _ _ (omega arith)
      (omega arith) c.cast_signed-signed_left.ensures c.cast_signed-signed_right.ensures c.from.ensures w.holds-is)
  | in-GtU w ↦ rw w.in-GtU.is (compared w64 compare.GtU _ _ _ _ _ _ (omega arith)
      (omega arith) c.cast_signed-signed_left.ensures c.cast_signed-signed_right.ensures c.from.ensures w.holds-is)
  | in-LeS w ↦ rw w.in-LeS.is (compared w64 compare.LeS _ _ _ _ _ _ (omega arith)
      (omega arith) c.cast_signed-signed_left.ensures c.cast_signed-signed_right.ensures c.from.ensures w.holds-is)
  | in-LeU w ↦ rw w.in-LeU.is (compared w64 compare.LeU _ _ _ _ _ _ (omega arith)
      (omega arith) c.cast_signed-signed_left.ensures c.cast_signed-signed_right.ensures c.from.ensures w.holds-is)
  | in-GeS w ↦ rw w.in-GeS.is (compared w64 compare.GeS _ _ _ _ _ _ (omega arith)
      (omega arith) c.cast_signed-signed_left.ensures c.cast_signed-signed_right.ensures c.from.ensures w.holds-is)
  | in-GeU w ↦ rw w.in-GeU.is (compared w64 compare.GeU _ _ _ _ _ _ (omega arith)
      (omega arith) c.cast_signed-signed_left.ensures c.cast_signed-signed_right.ensures c.from.ensures w.holds-is)
]
