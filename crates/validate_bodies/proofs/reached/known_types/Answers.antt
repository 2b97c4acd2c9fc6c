use Rattle.std.proofs.Common.{◌∙◌, arith}
use Rattle.std.proofs.lemmas.List.{take_all}
use Rattle.validate_bodies.proofs.Known.{known_more}
use Rattle.validate_bodies.proofs.reached.known_types.Goals as goal

pub loop-operand-preserved : goal.loop-operand-preserved
loop-operand-preserved c =
    known_more c.args.operands.now c.loop-operand.operand-index _ c.in-Some.val_type _ _ (omega arith) c.in-Some.is c.loop-operand.invariant
    c.in_ok-push.ensures.items

pub returns-in_default : goal.returns-in_default
returns-in_default c = (c.loop-operand.operand-index, omega arith, c.in_default.is)

pub returns : goal.returns
returns c = c.loop-operand.invariant ∙ take_all _ _ (omega arith)
