use Rattle.search_race_free.specs.Search.{ComesAlone}
use Rattle.search_race_free.proofs.alone.run_alone.Given as goal

abbrev pub invariant-loop : goal.invariant-loop
invariant-loop g l = record { comes : ComesAlone (g.M.Moves.threads l.system) l.m l.fn.from l.at }
