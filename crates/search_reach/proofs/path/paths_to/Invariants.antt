use Rattle.std.proofs.Common.{◌≡◌, length, take, vec_len}
use Rattle.search_reach.specs.Moved.{ArePathsTo}
use Rattle.search_reach.proofs.path.paths_to.Given as goal

abbrev pub invariant-loop-state : goal.invariant-loop-state
invariant-loop-state l = record {
  paths : ArePathsTo l.moves (length l.ways) l.paths.items (take l.state-index l.states);
  len : vec_len l.paths ≡ l.state-index;
}
