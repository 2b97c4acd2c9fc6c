use Rattle.std.proofs.Common.{◌≡◌, map, take}
use Rattle.search_graph.specs.Round.{moves_at}
use Rattle.search_fairness.proofs.judged.cycle_of.Given as goal

abbrev pub invariant-loop-index : goal.invariant-loop-index
invariant-loop-index l = record {
  threads : l.threads.items ≡ map (λ m. m.thread) (moves_at l.graph.moves.items (take l.index-index l.index-items));
  states : l.states.items ≡ map (λ m. m.from) (moves_at l.graph.moves.items (take l.index-index l.index-items));
}
