use Rattle.std.proofs.Common.{◌≡◌, ◌<◌, ℕ, length, get_or}
use Rattle.search_fairness.specs.Leaving.{IsMover}
use Rattle.search_fairness.proofs.hints.find_hint.Given as goal

abbrev pub invariant-loop-component : goal.invariant-loop-component
invariant-loop-component l = record {
  len : length l.movers.items ≡ l.component;
  each : (k : ℕ) → k < l.component → IsMover l.graph.moves.items l.parted.out l.parted.found k (get_or l.movers.items k 0);
}
