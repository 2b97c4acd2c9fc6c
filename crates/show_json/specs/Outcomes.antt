-- How threads end.
use Rattle.std.specs.Prelude.{List, [], ◌∷◌, codes, Option, Some, None}
use Rattle.types.specs.declared.value.Value.{Value}
use Rattle.types.specs.declared.value.Value.TheVariants as values
use Rattle.types.specs.declared.outcome.Trap.{Trap}
use Rattle.types.specs.declared.outcome.Stop.{Stop}
use Rattle.types.specs.declared.outcome.Outcome.{Outcome}
use Rattle.types.specs.declared.outcome.Outcome.TheVariants as outcomes
use Rattle.types.specs.Outcomes.{trap_words, trap_number, stop_words, stop_number}
use Rattle.show_json.specs.Json.{Json, Field, null, number, text, is, object_of}

-- What a function returned: null, or the number under its type.
abbrev pub result_json : Option Value → Json
result_json None = null
result_json (Some (values.I32 n)) = object_of (is (codes "i32") (number n) ∷ [])
result_json (Some (values.I64 n)) = object_of (is (codes "i64") (number n) ∷ [])

-- A trap or a stop: its words and its number.
abbrev pub trap_fields : Trap → List Field
trap_fields t = is (codes "trap") (text (trap_words t)) ∷ is (codes "number") (number (trap_number t)) ∷ []

abbrev pub stop_fields : Stop → List Field
stop_fields s = is (codes "stop") (text (stop_words s)) ∷ is (codes "number") (number (stop_number s)) ∷ []

-- How a thread ended.
abbrev pub outcome_fields : Outcome → List Field
outcome_fields (outcomes.Done result) = is (codes "ok") (result_json result) ∷ []
outcome_fields (outcomes.Trap t) = trap_fields t
outcome_fields (outcomes.Stop s) = stop_fields s

abbrev pub outcome_json : Outcome → Json
outcome_json outcome = object_of (outcome_fields outcome)
