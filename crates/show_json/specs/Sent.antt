-- How a value is sent to a writer of serde, event by event.
use Rattle.std.specs.Prelude.{ℕ, suc, ◌≡◌, List, [], ◌∷◌, Option, Some, None}
use Rattle.serde.specs.Event.{Log, Logs, field_key}
use Rattle.serde.specs.declared.name.Case.TheVariants.{AsIs}
use Rattle.serde_json.specs.Events.{SendsValue}
use Rattle.show_json.specs.Json.{Json, Field, value_of}

-- The value, and nothing else.
abbrev pub Sends : Json → Log → Log → Type 0
Sends j = SendsValue (value_of j)

-- A field, its name and then its value, or nothing where it isn't there.
abbrev pub SendsField : Field → Log → Log → Type 0
SendsField None old new = new ≡ old
SendsField (Some f) old new = (named : Log) × Logs old named (field_key f.0 AsIs) × Sends f.1 named new

-- The fields of an object, one after the other.
abbrev pub SendsFields : List Field → Log → Log → Type 0
SendsFields [] old new = new ≡ old
SendsFields (f ∷ fs) old new = (middle : Log) × SendsField f old middle × SendsFields fs middle new

-- How many fields are there: of one that may be given, of one whose list may be empty, and of several.
abbrev pub given : {A : Type 0} → Option A → ℕ
given None = 0
given (Some x) = 1

abbrev pub some : {A : Type 0} → List A → ℕ
some [] = 0
some (x ∷ xs) = 1

abbrev pub count : List Field → ℕ
count [] = 0
count (None ∷ fs) = count fs
count (Some f ∷ fs) = suc (count fs)
