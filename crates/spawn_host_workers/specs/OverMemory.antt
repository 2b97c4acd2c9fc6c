-- A memory as the contracts of a run see it.
use Rattle.std.specs.Prelude.{ℕ, Bool, List, Option}
use Rattle.types.specs.declared.event.Entry.{Entry}
use Rattle.shared_memory.specs.Memory.{Memory}
use Rattle.shared_memory.specs.declared.memory.SharedMemory.{Ghosts}

-- Whether tries can be lost, the memory before any entry, and how many entries the log takes; and of each seat its name
-- and what it has seen.
pub record OverMemory (S : Type 0) : Type 0 where
  pub loses : Bool
  pub opening : Memory
  pub limit : Option ℕ
  pub name : S → ℕ
  pub seen : S → List Entry

-- It is what the members of the trait say of a memory.
abbrev pub over : {M S : Type 0} → Ghosts M S → M → OverMemory S
over m memory = record { loses = m.LOSES; opening = m.opening; limit = m.limit memory; name = m.name; seen = m.seen }
