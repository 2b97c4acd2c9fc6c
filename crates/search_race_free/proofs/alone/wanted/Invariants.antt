use Rattle.std.proofs.Common.{length, ◌-◌}
use Rattle.search_race_free.proofs.Wanting.{WantedSoFar}
use Rattle.search_race_free.proofs.alone.wanted.Given as goal

abbrev pub invariant-loop-thread : goal.invariant-loop-thread
invariant-loop-thread g l = WantedSoFar (g.M.Moves.threads l.system) l.flat l.n l.wanted.items

abbrev pub decreases-loop-thread : goal.decreases-loop-thread
decreases-loop-thread g l = length l.flat.threads.items - l.n
