use Rattle.spawn_host_workers.specs.Level.{Round}
use Rattle.spawn_host_workers.proofs.rounds.round.Given as goal

abbrev pub invariant-loop-i : goal.invariant-loop-i
invariant-loop-i g l = let m = g.M.SharedMemory in Round m.opening m.name m.has_queue_right m.seen l.initial.hub l.hub l.initial.seats l.seats l.i
