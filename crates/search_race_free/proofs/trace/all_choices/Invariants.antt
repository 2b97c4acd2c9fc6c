use Rattle.search_race_free.specs.Search.{IsOwned}
use Rattle.search_race_free.proofs.trace.all_choices.Given as goal

abbrev pub invariant-loop-choice : goal.invariant-loop-choice
invariant-loop-choice g l = record { owned : IsOwned (g.M.Moves.threads l.system) l.at }
