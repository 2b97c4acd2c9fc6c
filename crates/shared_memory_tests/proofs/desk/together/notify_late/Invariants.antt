use Rattle.shared_memory_tests.specs.Standing.{StandsFree}
use Rattle.shared_memory_tests.proofs.desk.together.notify_late.Given as goal

-- thread 0 goes on
abbrev pub invariant-loop : goal.invariant-loop
invariant-loop g l = StandsFree (g.M.SharedMemory.name l.zero) (g.M.SharedMemory.seen l.zero)
