use Rattle.std.proofs.Common.{◌<◌, ℕ}
use Rattle.search_graph.specs.Graph.{IsMarked}
use Rattle.search_ample.proofs.rows.are_disjoint.Given as goal

abbrev pub invariant-loop-number : goal.invariant-loop-number
invariant-loop-number l = (p : ℕ) → p < l.number → IsMarked l.row p → IsMarked l.other p → ⊥
