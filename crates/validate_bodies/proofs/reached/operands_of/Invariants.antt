use Rattle.std.proofs.Common.{◌≡◌, take}
use Rattle.std.specs.List.{flat_map}
use Rattle.validate_instructions.specs.declared.block.OpenBlock.{OpenBlock}
use Rattle.validate_bodies.proofs.reached.operands_of.Given as goal

abbrev pub invariant-loop-block : goal.invariant-loop-block
invariant-loop-block l = l.operands.items ≡ flat_map (λ (b : OpenBlock). b.operands.items) (take l.block-index l.blocks)
