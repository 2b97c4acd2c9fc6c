use Rattle.std.proofs.Common.{◌<◌, ℕ, get_or}
use Rattle.search_fairness.specs.Leaving.{HasNoLeaver}
use Rattle.search_fairness.proofs.parted.Parted.mover_of.Given as goal

abbrev pub invariant-loop-index : goal.invariant-loop-index
invariant-loop-index l = (k : ℕ) → k < l.index-index
    → HasNoLeaver l.self.graph.now.moves.items l.self.out l.self.found l.component (get_or l.index-items k 0)
