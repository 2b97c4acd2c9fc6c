use Rattle.std.proofs.Common.{◌≡◌, drop}
use Rattle.validate_module_rules.specs.Faults.{first_of, memory_fault}
use Rattle.validate_module_rules.proofs.sizes.fault_of_memories.Given as goal

-- the first fault of the rest is that of all
abbrev pub invariant-loop-limits : goal.invariant-loop-limits
invariant-loop-limits l = first_of memory_fault (drop l.limits-index l.memories) ≡ first_of memory_fault l.memories
