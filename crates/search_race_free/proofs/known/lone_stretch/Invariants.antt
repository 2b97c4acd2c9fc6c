use Rattle.search_race_free.specs.Known.{GoesOnAlone}
use Rattle.search_race_free.proofs.known.lone_stretch.Given as goal

abbrev pub invariant-loop : goal.invariant-loop
invariant-loop g l = record { goes : GoesOnAlone (g.M.Moves.threads l.system) l.held l.thread l.n l.at.held l.at.thread }
