use Rattle.std.proofs.Common.{◌≡◌, take, true}
use Rattle.validate_typing.specs.Placed.{types_of}
use Rattle.validate_instructions.specs.Blocks.{labels_at}
use Rattle.validate_instructions.specs.Kinds.{are_labels}
use Rattle.validate_instructions.proofs.branches.need_labels.Given as goal

abbrev pub invariant-loop-index : goal.invariant-loop-index
invariant-loop-index l = are_labels (types_of (labels_at l.block l.outer)) (take l.index-index l.indices) ≡ true
