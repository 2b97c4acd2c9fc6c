use Rattle.std.proofs.Common.{◌≡◌, ◌++◌, fold, take, drop}
use Rattle.search_memory.specs.Memories.{with_change, AreDifferences}
use Rattle.search_memory.proofs.beside.differences.Given as goal

abbrev pub invariant-loop-at : goal.invariant-loop-at
invariant-loop-at l = record {
  same : fold with_change l.first l.changes.items ≡ take l.at l.bytes ++ drop l.at l.first;
  differences : AreDifferences l.first 0 l.at l.changes.items;
}
