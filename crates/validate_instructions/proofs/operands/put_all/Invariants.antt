use Rattle.std.proofs.Common.{drop}
use Rattle.validate_instructions.specs.Blocks.{Puts}
use Rattle.validate_instructions.proofs.operands.put_all.Given as goal

abbrev pub invariant-loop-index : goal.invariant-loop-index
invariant-loop-index l = Puts (drop l.index l.given) l.initial.block l.block
