-- What was refused, and what failed.
use Rattle.std.specs.Prelude.{ℕ, List, [], ◌∷◌, codes}
use Rattle.binary_wire.specs.Faults.{kind_number}
use Rattle.validate_typing.specs.Faults.{fault_number}
use Rattle.report_json.specs.declared.refusals.RefusedObject.{RefusedObject}
use Rattle.report_json.specs.declared.refusals.RefusedObject.TheVariants.{Read, Rule, RuleInBody, Call, Header}
use Rattle.report_json.specs.declared.refusals.RefusedObject.TheVariants.{Unreadable, EndMissing, Line, EndLine}
use Rattle.report_json.specs.declared.refusals.RefusalObject.{RefusalObject}
use Rattle.report_json.specs.declared.refusals.Failure.{Failure}
use Rattle.report_json.specs.declared.refusals.Failure.TheVariants.{Memory, Thread, File}
use Rattle.show_json.specs.Json.{Json, Field, number, text, is, are_some, object_of}

abbrev pub stage : List ℕ → Field
stage name = is (codes "stage") (text name)

abbrev pub fault : List ℕ → Field
fault words = is (codes "fault") (text words)

-- What is refused: the stage, and the number or the words of the fault, with its place.
abbrev pub refused_fields : RefusedObject → List Field
refused_fields (Read kind offset) =
    stage (codes "read") ∷ is (codes "number") (number (kind_number kind)) ∷ is (codes "offset") (number offset) ∷ []
refused_fields (Rule kind) = stage (codes "validity") ∷ is (codes "number") (number (fault_number kind)) ∷ []
refused_fields (RuleInBody kind function instruction) =
    stage (codes "validity")
    ∷ is (codes "number") (number (fault_number kind))
    ∷ is (codes "function") (number function)
    ∷ is (codes "instruction") (number instruction)
    ∷ []
refused_fields (Call words) = stage (codes "call") ∷ fault words.now ∷ []
refused_fields (Header line) = stage (codes "record") ∷ fault (codes "header line") ∷ is (codes "line") (number line) ∷ []
refused_fields (Unreadable line) =
    stage (codes "record") ∷ fault (codes "line unreadable") ∷ is (codes "line") (number line) ∷ []
refused_fields EndMissing = stage (codes "record") ∷ fault (codes "end missing") ∷ []
refused_fields (Line line) =
    stage (codes "replay") ∷ fault (codes "line does not fit") ∷ is (codes "line") (number line) ∷ []
refused_fields (EndLine line) =
    stage (codes "replay") ∷ fault (codes "end line does not fit") ∷ is (codes "line") (number line) ∷ []

abbrev pub refused_json : RefusedObject → Json
refused_json refused = object_of (refused_fields refused)

-- The status: 2 of a module, 3 of a call, 4 of a record.
abbrev pub status_of_refused : RefusedObject → ℕ
status_of_refused (Read kind offset) = 2
status_of_refused (Rule kind) = 2
status_of_refused (RuleInBody kind function instruction) = 2
status_of_refused (Call words) = 3
status_of_refused (Header line) = 4
status_of_refused (Unreadable line) = 4
status_of_refused EndMissing = 4
status_of_refused (Line line) = 4
status_of_refused (EndLine line) = 4

abbrev pub refusal_fields : RefusalObject → List Field
refusal_fields refusal =
    is (codes "status") (number (status_of_refused refusal.refused))
    ∷ is (codes "refused") (refused_json refusal.refused)
    ∷ are_some (codes "hints") (λ hint. text hint.now) refusal.hints.now
    ∷ []

abbrev pub refusal_json : RefusalObject → Json
refusal_json refusal = object_of (refusal_fields refusal)

-- What failed: memory, a thread that couldn't be started, or a file.
abbrev pub failure_fields : Failure → List Field
failure_fields Memory = is (codes "what") (text (codes "memory")) ∷ []
failure_fields Thread = is (codes "what") (text (codes "thread")) ∷ []
failure_fields (File path) = is (codes "what") (text (codes "file")) ∷ is (codes "path") (text path.now) ∷ []

abbrev pub failure_json : Failure → Json
failure_json failure = object_of (failure_fields failure)

-- Such a job has the status 5.
abbrev pub failed_json : Failure → Json
failed_json failure =
    object_of (is (codes "status") (number 5) ∷ is (codes "failed") (failure_json failure) ∷ [])

-- An accepted module, with so many functions of its own.
abbrev pub accepted_json : ℕ → Json
accepted_json functions =
    object_of (is (codes "status") (number 0) ∷ is (codes "functions") (number functions) ∷ [])

-- A job that is done, of which nothing else is said.
abbrev pub done_json : Json
done_json = object_of (is (codes "status") (number 0) ∷ [])
