use Rattle.std.proofs.Common.{take}
use Rattle.std.specs.List.{All}
use Rattle.validate_typing.specs.Typing.{results_of}
use Rattle.validate_typing.specs.Placed.{IsRow}
use Rattle.validate_instructions.specs.Blocks.{Carry, labels_at}
use Rattle.validate_instructions.proofs.branches.table_row.Given as goal

abbrev pub invariant-loop-index : goal.invariant-loop-index
invariant-loop-index l = record {
  row : IsRow (labels_at l.block l.outer) (take l.index-index l.indices) l.row.items;
  carried : All (Carry (labels_at l.block l.outer) (results_of l.default.carries)) (take l.index-index l.indices);
}
