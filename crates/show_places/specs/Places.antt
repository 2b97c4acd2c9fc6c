-- The offsets of instructions, read from left to right: of each the offset of its first byte, or the first fault.
use Rattle.std.specs.Prelude.{◌≡◌, ℕ, List, length, Bool, Ok}
use Rattle.types.specs.declared.instr.Instr.{Instr}
use Rattle.binary_wire.specs.declared.bounds.Bounds.{Bounds}
use Rattle.binary_wire.specs.Reading.{Reading}
use Rattle.binary_instructions.specs.Reading.{kept_at, each_kept_at, expression_at}

-- Of instructions until no block is open, at most so many.
abbrev pub places_at : ℕ → List Bool → Reading (List ℕ)
places_at most opens s bytes = kept_at (λ offset instr. offset) most opens s bytes

-- Of an expression.
unfoldable pub places_in : Reading (List ℕ)
places_in s bytes = each_kept_at (λ offset instr. offset) s bytes

-- An expression at the front of bytes has one place for each of its instructions.
abbrev pub OnePlaceEach : Bounds → List ℕ → Type 0
OnePlaceEach s bytes = (rest : List ℕ) (code : List Instr) → expression_at s bytes ≡ Ok (code, rest)
    → (places : List ℕ) × (places_in s bytes ≡ Ok (places, rest)) × (length places ≡ length code)
