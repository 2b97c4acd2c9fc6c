-- Numbers of an access, as its data has them.
use Rattle.std.specs.Prelude.{ℕ, ◌*◌, ◌-◌, ◌^◌, ◌&&◌, ◌||◌, nat_le, nat_lt, if◌then◌else◌, Bool}
use Rattle.std.specs.Prelude.{List, ◌++◌, codes, Option, Some, None, is_some}
use Rattle.std.specs.Fmt.{decimal}
use Rattle.show_text.specs.declared.number.NumberForm.{NumberForm}

-- The highest bit of numbers of so many bytes, where that is a sign.
abbrev pub sign_of : NumberForm → Option ℕ
sign_of form = if form.is_signed && nat_lt 0 form.width && nat_le form.width 8 then Some (2 ^ (form.width * 8 - 1)) else None

-- In two's complement a number from there on, up to twice that, is so far below zero.
abbrev pub below_by : Option ℕ → ℕ → Option ℕ
below_by None number = None
below_by (Some sign) number = if nat_lt number sign || nat_le sign (number - sign) then None else Some (sign - (number - sign))

abbrev pub below : NumberForm → ℕ → Option ℕ
below form number = below_by (sign_of form) number

abbrev pub is_negative : NumberForm → ℕ → Bool
is_negative form number = is_some (below form number)

abbrev pub signed_text : ℕ → Option ℕ → List ℕ
signed_text number None = decimal number
signed_text number (Some below) = codes "-" ++ decimal below

abbrev pub formed_text : NumberForm → ℕ → List ℕ
formed_text form number = signed_text number (below form number)
