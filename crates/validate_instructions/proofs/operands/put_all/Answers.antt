use Rattle.std.proofs.Common.{◌≡◌, ◌-◌, arith}
use Rattle.validate_instructions.proofs.Moves.{puts_start, puts_down}
use Rattle.validate_instructions.proofs.operands.put_all.Goals as goal

pub loop-index-init : goal.loop-index-init
loop-index-init c = puts_start c.args.given.now _ c.args.block.now (omega arith)

pub loop-index-preserved : goal.loop-index-preserved
loop-index-preserved c =
    puts_down c.args.given.now c.loop-index.index (c.loop-index.index - 1) _ _ _ _ (omega arith) (omega arith)
    c.loop-index.invariant c.in_ok-put_one.ensures

pub returns : goal.returns
returns c =
    let start : c.loop-index.index ≡ 0 = omega arith in
    rw start at c.loop-index.invariant
