use Rattle.std.proofs.Common.{All, take}
use Rattle.search_graph.specs.Graph.{IsMarked}
use Rattle.search_graph.proofs.ranks.all_are_marked.Given as goal

abbrev pub invariant-loop-m : goal.invariant-loop-m
invariant-loop-m l = All (λ m. IsMarked l.marks m.from) (take l.m-index l.moves)
