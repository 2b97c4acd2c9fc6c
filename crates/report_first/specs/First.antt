-- The modules of one atomic add, and what their runs print.
use Rattle.std.specs.Prelude.{ℕ, ◌≡◌, ◌+◌, ◌%◌, ◌==◌, ◌<◌, Bool, true, if◌then◌else◌}
use Rattle.std.specs.Prelude.{List, [], ◌∷◌, replicate, codes, Some, None}
use Rattle.std.specs.List.{splice}
use Rattle.types.specs.declared.limits.TheConstants.{PAGE_SIZE}
use Rattle.types.specs.declared.value.ValType.TheVariants as types
use Rattle.types.specs.declared.value.Value.TheVariants as values
use Rattle.types.specs.declared.event.RmwOp.TheVariants as ops
use Rattle.types.specs.declared.operators.AccessWidth.TheVariants as access
use Rattle.types.specs.declared.operators.AtomicOp.TheVariants as atomic
use Rattle.types.specs.declared.operators.MemArg.{MemArg}
use Rattle.types.specs.declared.instr.PlainInstr.TheVariants as plain
use Rattle.types.specs.declared.instr.Instr.{Instr}
use Rattle.types.specs.declared.instr.Instr.TheVariants as instrs
use Rattle.types.specs.declared.parts.FuncType.{FuncType}
use Rattle.types.specs.declared.parts.ExportDesc.TheVariants as exports
use Rattle.types.specs.declared.parts.Body.{Body}
use Rattle.types.specs.declared.parts.Parts.{Parts}
use Rattle.types.specs.declared.outcome.Trap.TheVariants as traps
use Rattle.types.specs.declared.outcome.Outcome.{Outcome}
use Rattle.types.specs.declared.outcome.Outcome.TheVariants as outcomes
use Rattle.shared_memory.specs.Numbers.{le_bytes}

-- The module whose function f adds a number to the i32 at an address of one shared page, and answers the value before.
abbrev pub first_module : ℕ → ℕ → List ℕ
first_module address addend =
    0x00 ∷ 0x61 ∷ 0x73 ∷ 0x6d ∷ 0x01 ∷ 0x00 ∷ 0x00 ∷ 0x00 ∷
    0x01 ∷ 0x05 ∷ 0x01 ∷ 0x60 ∷ 0x00 ∷ 0x01 ∷ 0x7f ∷
    0x03 ∷ 0x02 ∷ 0x01 ∷ 0x00 ∷
    0x05 ∷ 0x04 ∷ 0x01 ∷ 0x03 ∷ 0x01 ∷ 0x01 ∷
    0x07 ∷ 0x05 ∷ 0x01 ∷ 0x01 ∷ 0x66 ∷ 0x00 ∷ 0x00 ∷
    0x0a ∷ 0x0c ∷ 0x01 ∷ 0x0a ∷ 0x00 ∷ 0x41 ∷ address ∷ 0x41 ∷ addend ∷ 0xfe ∷ 0x1e ∷ 0x02 ∷ 0x00 ∷ 0x0b ∷ []

-- The bytes are the module with this address and this addend, of which there are 64 each.
pub record IsFirstModule (bytes : List ℕ) (address addend : ℕ) : Type 0 where
  pub address_below : address < 64
  pub addend_below : addend < 64
  pub spelled : bytes ≡ first_module address addend

-- The bytes are none of these 4,096 modules.
abbrev pub IsNoFirstModule : List ℕ → Type 0
IsNoFirstModule bytes = (address addend : ℕ) → IsFirstModule bytes address addend → ⊥

-- ---- the module as its parts

abbrev pub first_type : FuncType
first_type = record { params = []; results = types.I32 ∷ [] }

abbrev pub whole_word : MemArg
whole_word = record { align = 2; offset = 0 }

-- Two constants, the add, and the function's end.
abbrev pub first_code : ℕ → ℕ → List Instr
first_code address addend =
    instrs.Plain (plain.I32Const address) ∷ instrs.Plain (plain.I32Const addend)
    ∷ instrs.Plain (plain.Atomic (atomic.Rmw ops.Add (access.Whole types.I32)) whole_word) ∷ instrs.End ∷ []

abbrev pub first_body : ℕ → ℕ → Body
first_body address addend = record { locals = []; code = first_code address addend }

abbrev pub first_parts : ℕ → ℕ → Parts
first_parts address addend = record {
  types = first_type ∷ [];
  imports = [];
  functions = 0 ∷ [];
  tables = [];
  memories = record { min = 1; max = Some 1; shared = true } ∷ [];
  globals = [];
  exports = record { name = codes "f"; desc = exports.Func 0 } ∷ [];
  start = None;
  elements = [];
  bodies = first_body address addend ∷ [];
  «data» = [];
  length = 46;
}

-- ---- its run

-- A page of zeros.
unfoldable pub zeros : List ℕ
zeros = replicate PAGE_SIZE 0

-- The page with a number of four bytes at an address.
abbrev pub page_with : ℕ → ℕ → List ℕ
page_with address addend = splice zeros address (address + 4) (le_bytes 4 addend)

-- Whether the module's address is one that it may add at: 4 divides it.
abbrev pub is_aligned : ℕ → Bool
is_aligned address = address % 4 == 0

-- The page after the run: an address that isn't aligned traps, with no access.
abbrev pub page_after : ℕ → ℕ → List ℕ
page_after address addend = if is_aligned address then page_with address addend else zeros

-- How the thread ends: with the value before the add, or by the trap.
abbrev pub first_outcome : ℕ → Outcome
first_outcome address = if is_aligned address then outcomes.Done (Some (values.I32 0))
    else outcomes.Trap traps.UnalignedAtomic
