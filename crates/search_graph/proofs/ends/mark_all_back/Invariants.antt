use Rattle.std.proofs.Common.{◌≡◌, ◌<◌, ◌≤◌, true, false, length, drop}
use Rattle.search_graph.specs.Marking.{unmarked_in, MarkCanEnd, IsClosed}
use Rattle.search_graph.proofs.ends.mark_all_back.Given as goal

abbrev pub invariant-loop-k : goal.invariant-loop-k
invariant-loop-k l = record {
  within : l.k ≤ length l.moves;
  ends : MarkCanEnd l.moves l.ended l.marks;
  most : unmarked_in l.marks ≤ unmarked_in l.fn.marks;
  fewer : l.any ≡ true → unmarked_in l.marks < unmarked_in l.fn.marks;
  closed : l.any ≡ false → IsClosed (drop l.k l.moves) l.marks;
}

abbrev pub decreases-loop-k : goal.decreases-loop-k
decreases-loop-k l = l.k
