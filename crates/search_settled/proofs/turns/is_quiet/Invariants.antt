use Rattle.search_settled.specs.Alone.{IsUnheard}
use Rattle.search_settled.proofs.turns.is_quiet.Given as goal

abbrev pub invariant-loop-m : goal.invariant-loop-m
invariant-loop-m g l = IsUnheard (g.M.Moves.threads l.system) l.made l.n l.m
