-- The object of a job that isn't done.
use Rattle.std.specs.Prelude.{ℕ, ◌≡◌, List, [], ◌∷◌, codes, Option}
use Rattle.std.specs.Borrow.{Bor}
use Rattle.std.specs.Io.KnownBytes.{Appends}
use Rattle.spawn_host.specs.declared.request.CallFault.{CallFault}
use Rattle.spawn_host.specs.declared.request.CallFault.TheVariants as calls
use Rattle.report_memory.specs.declared.laying.Unlaid.{Unlaid}
use Rattle.report_memory.specs.declared.laying.Unlaid.TheVariants as unlaids
use Rattle.show_json.specs.Json.{Json, are_some, is, json_line, number, object_of, text}
use Rattle.report_json.specs.Refusals.{failed_json, fault, refused_json, stage}
use Rattle.report_json.specs.declared.refusals.RefusedObject.TheVariants as objects
use Rattle.report_json.specs.declared.refusals.Failure.TheVariants as failures
use Rattle.report_jobs.specs.Told.{path_or}
use Rattle.report_jobs.specs.Undone.{absent_words, refused_status}
use Rattle.report_jobs.specs.declared.undone.Refused.{Refused}
use Rattle.report_jobs.specs.declared.undone.Refused.TheVariants as refused
use Rattle.report_jobs.specs.declared.undone.Failed.{Failed}
use Rattle.report_jobs.specs.declared.undone.Failed.TheVariants as failed
use Rattle.report_jobs.specs.declared.undone.Undone.{Undone}
use Rattle.report_jobs.specs.declared.undone.Undone.TheVariants as undone

abbrev pub call_words : CallFault → List ℕ
call_words calls.UnknownExport = codes "unknown export"
call_words calls.WrongArguments = codes "wrong arguments"

abbrev pub unlaid_words : Unlaid → List ℕ
unlaid_words unlaids.Nowhere = codes "no memory to lay bytes over"
unlaid_words (unlaids.Outside room) = codes "bytes outside the memory"
unlaid_words unlaids.Segments = codes "too many data segments"

-- Of a call it has the words that say why.
abbrev pub call_json : List ℕ → Json
call_json words = object_of (stage (codes "call") ∷ fault words ∷ [])

-- What is refused: the stage, and the number or the words of the fault, with its place.
abbrev pub told_json : Refused → Json
told_json (refused.Read kind offset) = refused_json (objects.Read kind offset)
told_json (refused.Rule kind) = refused_json (objects.Rule kind)
told_json (refused.RuleInBody kind function place) = refused_json (objects.RuleInBody kind function place)
told_json (refused.Unlaid why addr count) = call_json (unlaid_words why)
told_json (refused.Call fault m) = call_json (call_words fault)
told_json (refused.Absent absent) = call_json (absent_words absent)
told_json (refused.Allowance absent) = call_json (absent_words absent)
told_json (refused.Header line) = refused_json (objects.Header line)
told_json (refused.Unreadable line) = refused_json (objects.Unreadable line)
told_json refused.EndMissing = refused_json objects.EndMissing
told_json (refused.Line line misfit) = refused_json (objects.Line line)
told_json (refused.EndLine line misfit) = refused_json (objects.EndLine line)

-- The object of a refusal: its status, what is refused, and the hints.
abbrev pub refusal_object : Refused → List (Bor (List ℕ)) → Json
refusal_object why hints = object_of (
    is (codes "status") (number (refused_status why))
    ∷ is (codes "refused") (told_json why)
    ∷ are_some (codes "hints") (λ hint. text hint.now) hints
    ∷ [])

abbrev pub WritesRefused : Refused → List (Bor (List ℕ)) → Option (List ℕ) → Option (List ℕ) → Type 0
WritesRefused why hints old new = Appends old new (json_line (refusal_object why hints))

-- The object of a file that failed.
abbrev pub file_json : List ℕ → Json
file_json path = object_of (
    is (codes "status") (number 5)
    ∷ is (codes "failed")
    (object_of (is (codes "what") (text (codes "file")) ∷ is (codes "path") (text path) ∷ []))
    ∷ [])

-- That of what failed is written, but of standard output none.
abbrev pub WritesFailed : Failed → Option (List ℕ) → Option (List ℕ) → Type 0
WritesFailed failed.Memory old new = Appends old new (json_line (failed_json failures.Memory))
WritesFailed failed.Thread old new = Appends old new (json_line (failed_json failures.Thread))
WritesFailed (failed.File path) old new = Appends old new (json_line (file_json (path_or path)))
WritesFailed failed.Output old new = new ≡ old

-- What was written is the object of this job, with these hints.
abbrev pub WritesUndone : Undone → List (Bor (List ℕ)) → Option (List ℕ) → Option (List ℕ) → Type 0
WritesUndone (undone.Refused why) hints old new = WritesRefused why hints old new
WritesUndone (undone.Failed what) hints old new = WritesFailed what old new
