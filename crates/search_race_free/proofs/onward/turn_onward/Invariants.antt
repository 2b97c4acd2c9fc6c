use Rattle.search_race_free.specs.Search.{ComesOnward}
use Rattle.search_race_free.proofs.onward.turn_onward.Given as goal

abbrev pub invariant-loop-m : goal.invariant-loop-m
invariant-loop-m g l = record { comes : ComesOnward (g.M.Moves.threads l.system) l.n l.from l.at }
