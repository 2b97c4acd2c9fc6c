-- Open functions.
use Rattle.std.specs.Prelude.{ℕ, List, [], ◌∷◌, ◌++◌, codes, Option, Some, None, decimal, false, string_bytes}
use Rattle.std.specs.Fmt.{digits}
use Rattle.std.specs.Borrow.{Bor}
use Rattle.types.specs.declared.value.Value.{Value}
use Rattle.dwarf_frames.specs.declared.frames.Chain.{Chain}
use Rattle.show_told.specs.declared.functions.ToldFunction.{ToldFunction}
use Rattle.show_told.specs.declared.values.ToldNumber.{ToldNumber}
use Rattle.show_told.specs.declared.values.ToldValue.{ToldValue}
use Rattle.show_told.specs.declared.values.TypedWord.{TypedWord}
use Rattle.show_told.specs.Values.{number_text, value_of}
use Rattle.show_json.specs.Json.{Json, Field, number, text, is, is_given, are_some, object_of, string_json}
use Rattle.show_json.specs.Outcomes.{result_json}
use Rattle.show_json.specs.Places as places

-- A word of a local or an operand: the number under its type, where that is known, and else the number alone.
abbrev pub word_by : Option Value → ℕ → Json
word_by (Some value) word = result_json (Some value)
word_by None word = number word

abbrev pub word_json : TypedWord → Json
word_json t = word_by (value_of t) t.word

-- A number by its digits, behind a minus where it is below 0.
abbrev pub number_json : ToldNumber → Json
number_json n = text (number_text n)

-- The value of a variable: its type and name, its number, and what the data is called to which it points.
abbrev pub value_fields : ToldValue → List Field
value_fields v =
    is (codes "variable") (string_json v.label)
    ∷ is_given (codes "value") number_json v.number
    ∷ is_given (codes "points_to") string_json v.target
    ∷ []

abbrev pub value_json : ToldValue → Json
value_json v = object_of (value_fields v)

-- A function in the place of its call, and the calls behind it.
abbrev pub chain_json : Chain → Json
chain_json chain = text (string_bytes chain.innermost ++ string_bytes chain.calls)

-- How far behind the start of its body, in base 16; and the file and its line.
abbrev pub offset_field : Option ℕ → Field
offset_field None = None
offset_field (Some offset) = is (codes "offset") (text (codes "0x" ++ digits 16 false offset))

abbrev pub source_field : Option (Bor (List ℕ) × ℕ) → Field
source_field None = None
source_field (Some source) = is (codes "source") (text (source.0.now ++ codes ":" ++ decimal source.1))

-- An open function: a place, with what was put in the place of a call there, and what it has.
abbrev pub function_fields : ToldFunction → List Field
function_fields f =
    is (codes "function") (places.function_json f.spot.name)
    ∷ offset_field f.spot.offset
    ∷ source_field f.spot.source
    ∷ is_given (codes "inlined") chain_json f.chain
    ∷ are_some (codes "locals") word_json f.locals.items
    ∷ are_some (codes "operands") word_json f.operands.items
    ∷ are_some (codes "values") value_json f.values.items
    ∷ []

abbrev pub function_json : ToldFunction → Json
function_json f = object_of (function_fields f)
