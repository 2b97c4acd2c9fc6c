use Rattle.std.proofs.Common.{◌≤◌}
use Rattle.search_graph.specs.Marking.{MarkCanEnd, unmarked_in}
use Rattle.search_graph.proofs.ends.mark_in_order.Given as goal

abbrev pub invariant-loop-k : goal.invariant-loop-k
invariant-loop-k l = record {
  ends : MarkCanEnd l.moves l.ended l.marks;
  fewer : unmarked_in l.marks ≤ unmarked_in l.fn.marks;
}
