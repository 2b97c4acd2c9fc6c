use Rattle.search_race_free.specs.Search.{IsOwned}
use Rattle.search_race_free.proofs.trace.note_way.Given as goal

abbrev pub invariant-loop-step : goal.invariant-loop-step
invariant-loop-step g l = record { owned : IsOwned (g.M.Moves.threads l.system) l.at }
