use Rattle.std.proofs.Common.{◌≡◌, All, take, ◌⊎◌, ℕ}
use Rattle.search_graph.specs.Graph.{IsMarked, CanMove}
use Rattle.search_graph.specs.Ranks.{Falls, mover_at}
use Rattle.search_graph.proofs.ranks.ranks_fall.Given as goal

abbrev pub invariant-loop-m : goal.invariant-loop-m
invariant-loop-m l = record {
  falls : All (Falls l.ranks l.movers) (take l.m-index l.moves);
  sound : (s : ℕ) → IsMarked l.marks s → IsMarked l.fn.marks s ⊎ CanMove l.moves s (mover_at l.ranks l.movers s);
  all : All (λ m. m.thread ≡ mover_at l.ranks l.movers m.from → IsMarked l.marks m.from) (take l.m-index l.moves);
}
