-- A file's bytes over the memory with which the run of a module begins.
use Rattle.std.specs.Prelude.{ℕ, ◌≡◌, ◌+◌, ◌*◌, nat_le, nat_lt, if◌then◌else◌, List, [], ◌∷◌, ◌++◌, length, Option, Some, None}
use Rattle.std.specs.List.{slice_get, splice}
use Rattle.types.specs.declared.instr.PlainInstr.TheVariants as plain
use Rattle.types.specs.declared.instr.Instr.TheVariants as instrs
use Rattle.types.specs.declared.parts.Limits.{Limits}
use Rattle.types.specs.declared.parts.DataSegment.{DataSegment}
use Rattle.types.specs.declared.parts.Parts.{Parts}
use Rattle.types.specs.declared.limits.TheConstants.{MOST_ITEMS, PAGE_SIZE}
use Rattle.validate_typing.specs.Context.{memories_of}
use Rattle.validate_typing.specs.Image.{opening_image}
use Rattle.validate_typing.specs.Validity.{IsValid}
use Rattle.report_memory.specs.declared.laying.Unlaid.{Unlaid}
use Rattle.report_memory.specs.declared.laying.Unlaid.TheVariants.{Nowhere, Outside, Segments}

-- The data segment with which bytes are written over a memory from an address on.
abbrev pub segment_at : ℕ → List ℕ → DataSegment
segment_at addr bytes =
    record { memory = 0; offset = instrs.Plain (plain.I32Const addr) ∷ (instrs.End ∷ []); bytes = bytes }

-- The module with this segment behind its own.
abbrev pub laid : Parts → ℕ → List ℕ → Parts
laid m addr bytes = record m { «data» = m.«data» ++ segment_at addr bytes ∷ [] }

-- Why so many bytes can't be laid over a memory: there is none, or they don't lie within its opening pages; or there
-- are as many segments as a module can have.
abbrev pub unlaid_in : Option Limits → ℕ → ℕ → ℕ → Option Unlaid
unlaid_in None segments addr count = Some Nowhere
unlaid_in (Some l) segments addr count =
    if nat_le (addr + count) (PAGE_SIZE * l.min)
    then (if nat_lt segments MOST_ITEMS then None else Some Segments)
    else Some (Outside (PAGE_SIZE * l.min))

-- The same of a module's opening memory.
abbrev pub unlaid : Parts → ℕ → ℕ → Option Unlaid
unlaid m addr count = unlaid_in (slice_get (memories_of m) 0) (length m.«data») addr count

-- The opening memory is then the module's own, with the bytes written over it from the address on.
abbrev pub TheImageIsLaidOver : Type 0
TheImageIsLaidOver =
    (m : Parts) (addr : ℕ) (bytes : List ℕ) →
    opening_image (laid m addr bytes) ≡ splice (opening_image m) addr (addr + length bytes) bytes

-- A valid module stays one.
abbrev pub LaidModulesAreValid : Type 0
LaidModulesAreValid =
    (m : Parts) (addr : ℕ) (bytes : List ℕ) → IsValid m → unlaid m addr (length bytes) ≡ None
    → IsValid (laid m addr bytes)
