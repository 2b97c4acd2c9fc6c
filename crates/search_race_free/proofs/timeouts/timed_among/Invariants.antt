use Rattle.search_race_free.proofs.Timing.{UntimedBelow}
use Rattle.search_race_free.proofs.timeouts.timed_among.Given as goal

abbrev pub invariant-loop-place : goal.invariant-loop-place
invariant-loop-place g l = UntimedBelow (g.M.Moves.threads l.system) l.table l.place
