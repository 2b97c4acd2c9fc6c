use Rattle.std.proofs.Common.{length}
use Rattle.search_reach.proofs.Choosing.{IsPathFrom}
use Rattle.search_reach.proofs.path.path_to.Given as goal

abbrev pub invariant-loop-place : goal.invariant-loop-place
invariant-loop-place l = IsPathFrom l.moves (length l.ways) l.at l.path.items l.state

abbrev pub decreases-loop-place : goal.decreases-loop-place
decreases-loop-place l = l.at
