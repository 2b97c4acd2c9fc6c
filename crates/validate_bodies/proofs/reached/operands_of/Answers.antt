use Rattle.std.proofs.Common.{◌∙◌, ap, arith}
use Rattle.std.specs.List.{flat_map}
use Rattle.std.proofs.lemmas.List.{take_all}
use Rattle.validate_instructions.specs.declared.block.OpenBlock.{OpenBlock}
use Rattle.validate_bodies.proofs.Known.{operands_more}
use Rattle.validate_bodies.proofs.reached.operands_of.Goals as goal

pub loop-block-preserved : goal.loop-block-preserved
loop-block-preserved c =
    operands_more c.args.blocks.now c.loop-block.block-index c.block-item.result _ _ _ (omega arith) c.block-item.is c.loop-block.invariant
    c.deref.ensures.value c.in_ok-extend_from_slice.ensures.items

pub returns : goal.returns
returns c = c.loop-block.invariant ∙ ap (flat_map (λ (b : OpenBlock). b.operands.items)) (take_all _ c.args.blocks.now c.loop-block-test.false)
