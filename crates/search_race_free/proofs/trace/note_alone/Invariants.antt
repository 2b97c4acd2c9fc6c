use Rattle.search_race_free.specs.Search.{IsOwned}
use Rattle.search_race_free.proofs.trace.note_alone.Given as goal

abbrev pub invariant-loop : goal.invariant-loop
invariant-loop g l = record { owned : IsOwned (g.M.Moves.threads l.system) l.at }
