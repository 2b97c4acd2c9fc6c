use Rattle.std.proofs.Common.{◌≡◌, vec_len}
use Rattle.search_reach.specs.Moved.{AreWaysIn}
use Rattle.search_reach.proofs.path.ways_in.Given as goal

abbrev pub invariant-loop-place : goal.invariant-loop-place
invariant-loop-place l = record {
  ways : AreWaysIn l.moves l.place l.ways.items;
  len : vec_len l.ways ≡ l.states;
}
