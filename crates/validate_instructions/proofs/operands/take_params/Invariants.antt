use Rattle.std.proofs.Common.{drop, reverse}
use Rattle.validate_instructions.specs.Blocks.{Takes}
use Rattle.validate_instructions.proofs.operands.take_params.Given as goal

abbrev pub invariant-loop-index : goal.invariant-loop-index
invariant-loop-index l = Takes (reverse (drop l.index l.params)) l.initial.block l.block
