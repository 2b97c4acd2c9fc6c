use Rattle.std.proofs.Common.{take}
use Rattle.validate_instructions.specs.Blocks.{Takes}
use Rattle.validate_instructions.proofs.operands.take_all.Given as goal

abbrev pub invariant-loop-val_type : goal.invariant-loop-val_type
invariant-loop-val_type l = Takes (take l.val_type-index l.wanted) l.initial.block l.block
