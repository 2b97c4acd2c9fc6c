use Rattle.std.specs.List.Sorted.{IsStrictlyIncreasing}
use Rattle.search_graph.specs.Marking.{AreUnmarked}
use Rattle.search_graph.proofs.ends.unmarked.Given as goal

abbrev pub invariant-loop-s : goal.invariant-loop-s
invariant-loop-s l = record {
  found : AreUnmarked l.marks l.s l.found.items;
  order : IsStrictlyIncreasing l.found.items;
}
