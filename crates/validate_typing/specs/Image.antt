-- The memory before the first instruction of a run.
use Rattle.std.specs.Prelude.{ℕ, ◌+◌, ◌*◌, Bool, false, List, ◌∷◌, length, replicate, Option, Some, None}
use Rattle.std.specs.List.{slice_get, splice, fold}
use Rattle.types.specs.declared.instr.PlainInstr.TheVariants as plain
use Rattle.types.specs.declared.instr.Instr.{Instr}
use Rattle.types.specs.declared.instr.Instr.TheVariants as instrs
use Rattle.types.specs.declared.parts.Limits.{Limits}
use Rattle.types.specs.declared.parts.DataSegment.{DataSegment}
use Rattle.types.specs.declared.parts.Parts.{Parts}
use Rattle.types.specs.declared.limits.TheConstants.{PAGE_SIZE}
use Rattle.validate_typing.specs.Context.{memories_of}

-- The pages of the opening memory (Core specification 1.0, section 4.5.3): its minimum, or none without a memory.
abbrev pub min_of : Option Limits → ℕ
min_of None = 0
min_of (Some l) = l.min

abbrev pub opening_pages : Parts → ℕ
opening_pages m = min_of (slice_get (memories_of m) 0)

-- The most pages that the memory may have: the maximum that is given, else the most that any may have (this project's
-- own), or none without a memory.
abbrev pub max_of_limits : ℕ → Option ℕ → ℕ
max_of_limits most None = most
max_of_limits most (Some n) = n

abbrev pub max_of : ℕ → Option Limits → ℕ
max_of most None = 0
max_of most (Some l) = max_of_limits most l.max

abbrev pub pages_max_of : ℕ → Parts → ℕ
pages_max_of most m = max_of most (slice_get (memories_of m) 0)

-- The memory is there, and threads may share it.
abbrev pub is_shared : Option Limits → Bool
is_shared None = false
is_shared (Some l) = l.shared

-- The number of a constant expression of type i32.
abbrev pub offset_of : List Instr → ℕ
offset_of (instrs.Plain (plain.I32Const n) ∷ rest) = n
offset_of _ = 0

-- A data segment is written over the bytes before (section 4.5.4).
abbrev pub with_segment : List ℕ → DataSegment → List ℕ
with_segment bytes d = splice bytes (offset_of d.offset) (offset_of d.offset + length d.bytes) d.bytes

-- The opening image: zeros, with the data segments written over them in order.
abbrev pub opening_image : Parts → List ℕ
opening_image m = fold with_segment (replicate (PAGE_SIZE * opening_pages m) 0) m.data
