use Rattle.std.proofs.Common.{◌≡◌, ◌<◌, ℕ}
use Rattle.search_graph.specs.Graph.{move_at}
use Rattle.search_graph.specs.Round.{came}
use Rattle.search_graph.proofs.cycles.is_round.Given as goal

abbrev pub invariant-loop-m : goal.invariant-loop-m
invariant-loop-m l = record {
  at : l.at ≡ came l.start l.walk l.m-index;
  joined : (k : ℕ) → k < l.m-index → (move_at l.walk k).from ≡ came l.start l.walk k;
}
