use Rattle.std.proofs.Common.{◌∙◌, arith}
use Rattle.shared_memory_sequential.proofs.Bytes.{write_more}
use Rattle.shared_memory_sequential.proofs.number.write_each.Goals as goal

pub loop-i-preserved : goal.loop-i-preserved
loop-i-preserved c =
    write_more c.loop-i.bytes c.args.at c.loop-i.i c.args.width c.loop-i.rest (omega arith) (omega arith) ∙ c.loop-i.invariant
