use Rattle.shared_memory.specs.WaitQueue.{IsFree}
use Rattle.shared_memory.specs.History.{queue_after}
use Rattle.bench.proofs.desk.take_turns.Given as goal

-- the thread goes on
abbrev pub invariant-loop : goal.invariant-loop
invariant-loop g l = IsFree (queue_after (g.M.SharedMemory.seen l.seat)) (g.M.SharedMemory.name l.seat)
