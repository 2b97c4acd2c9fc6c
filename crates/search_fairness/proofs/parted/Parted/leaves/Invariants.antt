use Rattle.std.proofs.Common.{◌<◌, ℕ, get_or}
use Rattle.search_fairness.specs.Leaving.{LeavesAt}
use Rattle.search_fairness.proofs.parted.Parted.leaves.Given as goal

abbrev pub invariant-loop-state : goal.invariant-loop-state
invariant-loop-state l = (k : ℕ) → k < l.state-index
    → LeavesAt l.self.graph.now.moves.items l.self.out l.self.found.of.items l.component l.thread (get_or l.state-items k 0)
