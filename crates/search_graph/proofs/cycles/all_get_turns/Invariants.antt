use Rattle.std.proofs.Common.{◌≡◌, All, take}
use Rattle.search_graph.specs.Round.{GetsTurnIn}
use Rattle.search_graph.proofs.cycles.all_get_turns.Given as goal

abbrev pub invariant-loop-m : goal.invariant-loop-m
invariant-loop-m l = All (λ m. m.from ≡ l.start → GetsTurnIn l.graph.moves.items l.walk m.thread) (take l.m-index l.moves)
