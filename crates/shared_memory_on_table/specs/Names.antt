-- What tells one memory from another.
use Rattle.std.specs.Prelude.{ℕ, []}
use Rattle.atomic_table.specs.Seated.{TableId}
use Rattle.shared_memory.specs.Memory.{Memory}

-- Its table, what it was before any entry, and how many entries its log takes: 0 for a memory that keeps none.
pub record MemoryName : Type 0 where
  pub table : TableId
  pub opening : Memory
  pub limit : ℕ

-- The name of no memory.
abbrev no_memory : Memory
no_memory = record { bytes = []; max = 0 }

abbrev no_table : TableId
no_table = record { words = 0; slots = 0; views_name = 0; atom = 0; block = 0; offset = 0; slot_names = [] }

abbrev pub no_name : MemoryName
no_name = record { table = no_table; opening = no_memory; limit = 0 }
