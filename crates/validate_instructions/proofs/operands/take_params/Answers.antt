use Rattle.std.proofs.Common.{◌≡◌, ◌-◌, arith}
use Rattle.validate_instructions.proofs.Moves.{takes_start, takes_down, lacks_down, at_exit}
use Rattle.validate_instructions.proofs.operands.take_params.Goals as goal

pub loop-index-init : goal.loop-index-init
loop-index-init c = takes_start c.args.params.now _ c.args.block.now (omega arith)

pub loop-index-preserved : goal.loop-index-preserved
loop-index-preserved c =
    takes_down c.args.params.now c.loop-index.index (c.loop-index.index - 1) _ _ _ _ (omega arith) (omega arith)
    c.loop-index.invariant c.in_ok-take_one.ensures

pub returns : goal.returns
returns c =
    let start : c.loop-index.index ≡ 0 = omega arith in
    rw start at c.loop-index.invariant

pub returns-in_err-take_one : goal.returns-in_err-take_one
returns-in_err-take_one c =
    at_exit _ _ _ _ c.from_residual.ensures.1
    (lacks_down c.args.params.now c.loop-index.index (c.loop-index.index - 1) _ _ _ _ (omega arith) (omega arith)
    c.loop-index.invariant c.in_err-take_one.ensures)
