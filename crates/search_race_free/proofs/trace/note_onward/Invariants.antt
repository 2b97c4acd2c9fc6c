use Rattle.search_race_free.specs.Search.{IsOwned}
use Rattle.search_race_free.proofs.trace.note_onward.Given as goal

abbrev pub invariant-loop-m : goal.invariant-loop-m
invariant-loop-m g l = record { owned : IsOwned (g.M.Moves.threads l.system) l.at }
