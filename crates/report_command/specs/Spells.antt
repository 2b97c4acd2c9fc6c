-- Which value a text spells.
use Rattle.std.specs.Prelude.{ℕ, ◌≡◌, ◌⊎◌, ◌+◌, ◌-◌, ◌^◌, ◌%◌, ◌<◌, ◌≤◌, ◌++◌, List, codes}
use Rattle.std.specs.Str.Parse.{IsNumeral, digits_value}
use Rattle.types.specs.declared.value.Value.{Value}
use Rattle.types.specs.declared.value.Value.TheVariants as values

-- The text is digits, at least one and without a sign, and they write the number.
abbrev pub AreDigits : ℕ → List ℕ → ℕ → Type 0
AreDigits radix text n = IsNumeral radix text × (n ≡ digits_value radix text)

-- They are decimal ones, or hexadecimal ones behind `0x`.
abbrev pub IsUnsigned : List ℕ → ℕ → Type 0
IsUnsigned text n = AreDigits 10 text n
    ⊎ ((digits : List ℕ) × (text ≡ codes "0x" ++ digits) × AreDigits 16 digits n)

-- The text is a minus sign and decimal digits, of which the number is the two's complement.
pub record IsNegative (text : List ℕ) (bound n : ℕ) : Type 0 where
  pub digits : List ℕ
  pub is : text ≡ codes "-" ++ digits
  pub size : ℕ
  pub are : AreDigits 10 digits size
  pub fits : size + size ≤ bound
  pub value : n ≡ (bound - size) % bound

-- The text writes the number, of those below the bound.
abbrev pub Writes : List ℕ → ℕ → ℕ → Type 0
Writes text n bound = (IsUnsigned text n × (n < bound)) ⊎ IsNegative text bound n

-- The text spells the value.
abbrev pub Spells : List ℕ → Value → Type 0
Spells text (values.I32 n) = Writes text n (2 ^ 32)
Spells text (values.I64 n) = Writes text n (2 ^ 64)
