-- What a page has of its run beside the entries, as JSON, a line each.
use Rattle.std.specs.Prelude.{ℕ, List, [], ◌++◌, codes, string_bytes, Option}
use Rattle.std.specs.Fmt.{decimal}
use Rattle.std.specs.Io.KnownBytes.{Appends}
use Rattle.types.specs.Outcomes.{outcome_text}
use Rattle.types.specs.Values.{value_text}
use Rattle.types.specs.declared.outcome.Outcome.{Outcome}
use Rattle.types.specs.declared.outcome.ThreadReport.{ThreadReport}
use Rattle.types.specs.declared.value.Value.{Value}
use Rattle.replay_text.specs.declared.parts.RecordParts.{RecordParts}
use Rattle.show_events.specs.Around.{failure}
use Rattle.show_events.specs.Events.{quoted, line_text, InTurn}
use Rattle.show_events.specs.declared.line.Front.TheVariants.{Open, Next, Close}
use Rattle.show_events.specs.declared.run.MomentText.{MomentText}

-- The name of the function that was called, how many bytes the module has, how many entries are chosen, and the place of
-- the log at which the run failed;
abbrev pub head_json : RecordParts → ℕ → List ℕ
head_json r chosen = codes "{\"call\":" ++ (quoted r.invoke ++ (codes ",\"module\":" ++ (decimal r.module_len
    ++ (codes ",\"chosen\":" ++ (decimal chosen ++ (codes ",\"failure\":" ++ (decimal (failure r) ++ codes "}")))))))

-- an argument; how a thread has ended; and a moment.
abbrev pub argument_json : Value → List ℕ
argument_json value = codes "{\"argument\":\"" ++ (value_text value ++ codes "\"}")

abbrev pub ended_json : Outcome → List ℕ
ended_json outcome = codes "{\"ended\":\"" ++ (outcome_text outcome ++ codes "\"}")

abbrev pub moment_json : MomentText → List ℕ
moment_json moment = codes "{\"moment\":" ++ (decimal moment.at ++ (codes ",\"text\":"
    ++ (quoted (string_bytes moment.text) ++ codes "}")))

-- What is written is a line that has the JSON of this;
abbrev pub Adds : {X : Type 0} → (X → List ℕ) → X → Option (List ℕ) → Option (List ℕ) → Type 0
Adds json x old new = Appends old new (line_text Next (json x))

-- of an argument; of how a thread has ended; and of a moment.
abbrev pub AddsArgument : Value → Option (List ℕ) → Option (List ℕ) → Type 0
AddsArgument = Adds argument_json

abbrev pub AddsEnded : ThreadReport → Option (List ℕ) → Option (List ℕ) → Type 0
AddsEnded = Adds (λ report. ended_json report.outcome)

abbrev pub AddsMoment : MomentText → Option (List ℕ) → Option (List ℕ) → Type 0
AddsMoment = Adds moment_json

-- What is written is the head of a record, with so many entries that are chosen; each argument, each thread's end and
-- each of these moments, in order.
pub record AddsRun (r : RecordParts) (chosen : ℕ) (moments : List MomentText) (old new : Option (List ℕ)) : Type 0 where
  pub opened : Option (List ℕ)
  pub opens : Appends old opened (line_text Open (head_json r chosen))
  pub asked : Option (List ℕ)
  pub asks : InTurn AddsArgument r.args opened asked
  pub ended : Option (List ℕ)
  pub ends : InTurn AddsEnded r.ends asked ended
  pub told : Option (List ℕ)
  pub tells : InTurn AddsMoment moments ended told
  pub closes : Appends told new (line_text Close [])
