-- Words of locals and operands, and the values of variables.
use Rattle.std.specs.Prelude.{ℕ, ◌-◌, ◌%◌, ◌^◌, ◌&&◌, nat_le, nat_lt, if◌then◌else◌}
use Rattle.std.specs.Prelude.{List, [], ◌++◌, codes, Option, Some, None, String, string_bytes}
use Rattle.std.specs.Global.{Global}
use Rattle.std.specs.Fmt.{decimal}
use Rattle.types.specs.declared.value.ValType.TheVariants.{I32, I64}
use Rattle.types.specs.declared.value.ValType.{ValType}
use Rattle.types.specs.declared.value.Value.{Value}
use Rattle.types.specs.declared.value.Value.TheVariants as values
use Rattle.types.specs.Values.{value_text as typed_text}
use Rattle.show_text.specs.Plain.{plain_text}
use Rattle.show_told.specs.declared.values.ToldNumber.{ToldNumber}
use Rattle.show_told.specs.declared.values.ToldValue.{ToldValue}
use Rattle.show_told.specs.declared.values.TypedWord.{TypedWord}

-- A word as a value of its type, where that is known.
abbrev pub value_by : Option ValType → ℕ → Option Value
value_by (Some I32) word = Some (values.I32 (word % 2 ^ 32))
value_by (Some I64) word = Some (values.I64 word)
value_by None word = None

abbrev pub value_of : TypedWord → Option Value
value_of t = value_by t.of t.word

-- As a value, and one whose type isn't known as its number.
abbrev pub text_by : Option Value → ℕ → List ℕ
text_by (Some value) word = typed_text value
text_by None word = decimal word

abbrev pub word_text : TypedWord → List ℕ
word_text t = text_by (value_of t) t.word

-- A number in two's complement, by its highest bit, if it has a sign.
abbrev pub sign_of : ToldNumber → Option ℕ
sign_of t = if t.is_signed && nat_lt 0 t.bits && nat_le t.bits 64 then Some (2 ^ (t.bits - 1)) else None

abbrev pub signed_text : ℕ → Option ℕ → List ℕ
signed_text number None = decimal number
signed_text number (Some sign) =
    if nat_le sign number then codes "-" ++ decimal (sign - (number - sign)) else decimal number

abbrev pub number_text : ToldNumber → List ℕ
number_text t = signed_text t.number (sign_of t)

-- To what a value points, if it does.
abbrev pub target_text : Option (String Global) → List ℕ
target_text None = []
target_text (Some name) = codes " <" ++ (plain_text (string_bytes name) ++ codes ">")

-- The type and the name, and behind them the number, and to what it points; or that there are parts that aren't told.
abbrev pub valued_text : ToldValue → Option ToldNumber → List ℕ
valued_text v None = codes "        " ++ (plain_text (string_bytes v.label) ++ codes " ..\n")
valued_text v (Some number) = codes "        " ++ (plain_text (string_bytes v.label)
    ++ (codes " = " ++ (number_text number ++ (target_text v.target ++ codes "\n"))))

abbrev pub value_text : ToldValue → List ℕ
value_text v = valued_text v v.number
