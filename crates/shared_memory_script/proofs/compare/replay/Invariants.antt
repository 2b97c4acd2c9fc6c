use Rattle.std.proofs.Common.{◌≡◌, drop}
use Rattle.shared_memory.specs.History.{memory_after}
use Rattle.shared_memory.specs.Legal.{IsMemoryLegal}
use Rattle.shared_memory_script.proofs.compare.replay.Given as goal

-- where the rest of the log is legal from here, the whole log is from the start; and both end alike
abbrev pub invariant-loop-i : goal.invariant-loop-i
invariant-loop-i l = (IsMemoryLegal l.one (drop l.i l.log) → IsMemoryLegal l.initial.one l.log)
    × (memory_after l.one (drop l.i l.log) ≡ memory_after l.initial.one l.log)
