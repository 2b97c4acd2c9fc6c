use Rattle.search_settled.proofs.Threads.{SoFar}
use Rattle.search_settled.proofs.next.threads_after.Given as goal

abbrev pub invariant-loop-m : goal.invariant-loop-m
invariant-loop-m g l = SoFar (g.M.Moves.threads l.system) l.shared l.made l.n l.threads l.m l.rested.items
