use Rattle.search_race_free.specs.Search.{HasReducedBelow}
use Rattle.search_race_free.proofs.next.next_states.Given as goal

abbrev pub invariant-loop-n : goal.invariant-loop-n
invariant-loop-n g l = record { below : HasReducedBelow (g.M.Moves.threads l.system) l.from l.n l.all.items }
