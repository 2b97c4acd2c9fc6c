use Rattle.std.proofs.Common.{◌≡◌, ◌⊎◌, ℕ, All, take}
use Rattle.search_graph.specs.Graph.{IsMarked, CanMove}
use Rattle.search_graph.proofs.cycles.mark_thread.Given as goal

abbrev pub invariant-loop-m : goal.invariant-loop-m
invariant-loop-m l = record {
  sound : (s : ℕ) → IsMarked l.marks s → IsMarked l.fn.marks s ⊎ CanMove l.moves s l.thread;
  all : All (λ m. m.thread ≡ l.thread → IsMarked l.marks m.from) (take l.m-index l.moves);
}
