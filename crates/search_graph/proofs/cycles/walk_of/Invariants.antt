use Rattle.std.proofs.Common.{◌≡◌, ◌<◌, All, take, length}
use Rattle.search_graph.specs.Round.{moves_at}
use Rattle.search_graph.proofs.cycles.walk_of.Given as goal

abbrev pub invariant-loop-index : goal.invariant-loop-index
invariant-loop-index l = record {
  is : l.walk.items ≡ moves_at l.moves (take l.index-index l.indices);
  within : All (λ k. k < length l.moves) (take l.index-index l.indices);
}
