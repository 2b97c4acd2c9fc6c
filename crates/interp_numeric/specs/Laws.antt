-- Laws of the definitions.
use Rattle.std.specs.Prelude.{◌≡◌, ℕ, ◌^◌, ◌<◌, List, ◌∷◌, ◌++◌, map, ⊤}
use Rattle.types.specs.Values.{type_of}
use Rattle.types.specs.declared.value.ValType.{ValType}
use Rattle.types.specs.declared.value.Value.{Value}
use Rattle.types.specs.declared.operators.NumericInstr.{NumericInstr}
use Rattle.interp_numeric.specs.Integers.{signed, unsigned}
use Rattle.interp_numeric.specs.Results.{NumericResult, Lacks, Traps, Gives, numeric_result}
use Rattle.validate_typing.specs.Typing.{numeric_takes, numeric_gives}

-- The integer that stands for the signed number of an integer is that integer.
abbrev pub UnsignedOfSigned : Type 0
UnsignedOfSigned = (N i : ℕ) → 0 < N → i < 2 ^ N → unsigned N (signed N i) ≡ i

-- A value of the type that the instruction gives, on top of operands of these types; or a trap.
abbrev pub HasTypes : NumericInstr → List ValType → NumericResult → Type 0
HasTypes n below Lacks = ⊥
HasTypes n below (Traps trap) = ⊤
HasTypes n below (Gives v rest) = type_of v ∷ map type_of rest ≡ numeric_gives n ∷ below

-- On operands of the types that it takes, with any below them, an instruction lacks nothing, and gives what its type
-- says.
abbrev pub TypedResults : Type 0
TypedResults =
    (n : NumericInstr) (operands : List Value) (below : List ValType)
    → map type_of operands ≡ numeric_takes n ++ below → HasTypes n below (numeric_result n operands)

-- The same result, with further operands below.
abbrev pub onto : List Value → NumericResult → NumericResult
onto low Lacks = Lacks
onto low (Traps trap) = Traps trap
onto low (Gives v rest) = Gives v (rest ++ low)

-- What lies below the operands that an instruction takes changes nothing, and stays.
abbrev pub BelowStays : Type 0
BelowStays =
    (n : NumericInstr) (operands low : List Value) (below : List ValType)
    → map type_of operands ≡ numeric_takes n ++ below
    → numeric_result n (operands ++ low) ≡ onto low (numeric_result n operands)
