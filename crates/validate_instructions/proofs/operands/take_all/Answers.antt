use Rattle.std.proofs.Common.{◌≡◌, take, arith}
use Rattle.std.proofs.lemmas.List.{take_all}
use Rattle.validate_instructions.proofs.Moves.{takes_none, takes_more, lacks_at, at_exit}
use Rattle.validate_instructions.proofs.operands.take_all.Goals as goal

pub loop-val_type-init : goal.loop-val_type-init
loop-val_type-init c = takes_none c.args.block.now

pub loop-val_type-preserved : goal.loop-val_type-preserved
loop-val_type-preserved c = takes_more c.args.wanted.now c.loop-val_type.val_type-index _ _ _ _ (omega arith) c.loop-val_type.invariant c.in_ok-take_one.ensures

pub returns : goal.returns
returns c =
    let all : take c.loop-val_type.val_type-index c.args.wanted.now ≡ c.args.wanted.now = take_all _ _ (omega arith) in
    rw all at c.loop-val_type.invariant

pub returns-in_err-take_one : goal.returns-in_err-take_one
returns-in_err-take_one c =
    at_exit _ _ _ _ c.from_residual.ensures.1
    (lacks_at c.args.wanted.now c.loop-val_type.val_type-index _ _ _ _ (omega arith) c.loop-val_type.invariant c.in_err-take_one.ensures)
