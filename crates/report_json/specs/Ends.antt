-- How threads and runs end.
use Rattle.std.specs.Prelude.{ℕ, Bool, true, false, nat_lt, List, [], ◌∷◌, codes, take, Option, None, option_and_then}
use Rattle.std.specs.List.{slice_get}
use Rattle.types.specs.declared.outcome.Outcome.{Outcome}
use Rattle.types.specs.declared.outcome.ThreadReport.{ThreadReport}
use Rattle.hex.specs.Hex.{encode_lower}
use Rattle.search_endings.specs.Ends.{status_of}
use Rattle.show_json.specs.declared.places.PlaceObject.{PlaceObject}
use Rattle.report_json.specs.declared.ends.RunEndObject.{RunEndObject}
use Rattle.report_json.specs.Said.{said_field}
use Rattle.show_json.specs.Json.{Json, Field, number, text, list, is, is_given, are_some, numbered, object_of}
use Rattle.show_json.specs.Outcomes.{outcome_json}
use Rattle.show_json.specs.Places.{place_json}

-- A thread of a run: its number, how it ended, the units that it spent, and where it stood, if that is known.
abbrev pub thread_fields : ℕ → ThreadReport → Option PlaceObject → List Field
thread_fields thread report place =
    is (codes "thread") (number thread)
    ∷ is (codes "outcome") (outcome_json report.outcome)
    ∷ is (codes "units") (number report.spent)
    ∷ is_given (codes "at") place_json place
    ∷ []

-- The place of a thread, of those that are known.
abbrev pub place_at : List (Option PlaceObject) → ℕ → Option PlaceObject
place_at places thread = option_and_then (λ place. place) (slice_get places thread)

abbrev pub thread_json : List (Option PlaceObject) → ℕ → ThreadReport → Json
thread_json places thread report = object_of (thread_fields thread report (place_at places thread))

-- The threads of a run, from thread 0 on.
abbrev pub threads_json : List (Option PlaceObject) → List ThreadReport → Json
threads_json places reports = list (numbered (thread_json places) 0 reports)

-- Bytes, where they are wanted: two digits of base 16 for each.
abbrev pub bytes_field : Bool → List ℕ → Field
bytes_field true bytes = is (codes "bytes") (text (encode_lower bytes))
bytes_field false bytes = None

-- How a run ended: its status, its threads, the page count, the first bytes, so many or all if there are fewer, where
-- some are wanted; what its threads said, and hints, where there is something to say.
abbrev pub run_fields : RunEndObject → List Field
run_fields run =
    is (codes "status") (number (status_of run.threads.now))
    ∷ is (codes "threads") (threads_json run.places.now run.threads.now)
    ∷ is (codes "pages") (number run.pages)
    ∷ bytes_field (nat_lt 0 run.dump) (take run.dump run.bytes.now)
    ∷ said_field run.said.now
    ∷ are_some (codes "hints") (λ hint. text hint.now) run.hints.now
    ∷ []

abbrev pub run_json : RunEndObject → Json
run_json run = object_of (run_fields run)

-- A thread of an ending: its number, and how it ended.
abbrev pub ended_json : ℕ → Outcome → Json
ended_json thread outcome =
    object_of (is (codes "thread") (number thread) ∷ is (codes "outcome") (outcome_json outcome) ∷ [])

abbrev pub outcomes_json : List Outcome → Json
outcomes_json outcomes = list (numbered ended_json 0 outcomes)
