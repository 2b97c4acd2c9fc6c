-- What each call answers, of what a host gave.
use Rattle.std.specs.Prelude.{ℕ, ◌≡◌, ◌⊎◌, List, [], ◌∷◌, length, Option, Some, None, Ok, Err}
use Rattle.std.specs.declared.result.Result.{Result}
use Rattle.std.specs.Str.{IsUtf8}
use Rattle.types.specs.declared.outcome.ThreadReport.{ThreadReport}
use Rattle.show_text.specs.declared.sheet.Unwritten.{Unwritten}
use Rattle.search_endings.specs.Ends.{status_of}
use Rattle.replay_text.specs.Text.{record_text}
use Rattle.search_endings.specs.Endings.{Ending}
use Rattle.search_reach.specs.declared.ending.Ended.{Ended}
use Rattle.search_scheduled.specs.declared.running.MadeRun.{MadeRun}
use Rattle.spawn_host.specs.declared.end.EndState.{EndState}
use Rattle.host_calls.specs.Hosts.{HasFunctions, IsModuleFault, IsCallFaultOf, IsFaultOf, IsReplayFault, IsReplayOf, IsRunBy}
use Rattle.host_calls.specs.Hosts.{HasEndings, status_of_fault}
use Rattle.host_calls.specs.declared.fault.HostFault.{HostFault}
use Rattle.host_calls.specs.declared.fault.HostFault.TheVariants as faults
use Rattle.spawn_host.specs.declared.request.CallFault.TheVariants.{UnknownExport}
use Rattle.wathread_c.specs.Answers.{Puts, no_answer, answer_with}
use Rattle.wathread_c.specs.Given.{plan_by, values_by}
use Rattle.wathread_c.specs.Lines.{IsAcceptedText, IsRefusalText, IsRunText, IsSearchText}
use Rattle.wathread_c.specs.declared.answer.CallAnswer.{CallAnswer}
use Rattle.wathread_c.specs.declared.objects.Line.{Line}
use Rattle.wathread_c.specs.declared.given.Options.{Options}
use Rattle.wathread_c.specs.declared.given.Word.{Word}

-- A line is in the buffer, or its length tells how long it is; its status is answered. Where there is none, since memory
-- was refused, that is 5, and nothing is told.
abbrev pub TellsLine : Result Line Unwritten → CallAnswer → List ℕ → List ℕ → CallAnswer → ℕ → Type 0
TellsLine (Ok line) before old new answer status =
    Puts old line.text.items new × (answer ≡ record before { text = length line.text.items }) × (status ≡ line.status)
TellsLine (Err e) before old new answer status = (new ≡ old) × (answer ≡ before) × (status ≡ 5)

-- A line of which this holds, as of its status, is told so.
pub record Tells (says : ℕ → List ℕ → Type 0) (old new : List ℕ) (answer : CallAnswer) (status : ℕ) : Type 0 where
  pub line : List ℕ
  pub said : says status line
  pub length_is : answer.text ≡ length line
  pub puts : Puts old line new

-- Memory was refused, and nothing is told, nor of how many bytes.
pub record Fails (old new : List ℕ) (answer : CallAnswer) (status : ℕ) : Type 0 where
  pub five : status ≡ 5
  pub kept : new ≡ old
  pub none : answer.text ≡ 0

-- It is told, unless memory was refused.
abbrev pub MayTell : (ℕ → List ℕ → Type 0) → List ℕ → List ℕ → CallAnswer → ℕ → Type 0
MayTell says old new answer status = Fails old new answer status ⊎ Tells says old new answer status

-- A fault is told as what is refused.
abbrev pub TellsFault : HostFault → List ℕ → List ℕ → CallAnswer → ℕ → Type 0
TellsFault fault old new answer status = MayTell (IsRefusalText fault) old new answer status

-- Of a check: the module is accepted, or refused by a fault of its.
pub data IsChecked (bytes : List ℕ) (status : ℕ) (line : List ℕ) : Type 0 where
  accepted : (count : ℕ) → HasFunctions bytes count → IsAcceptedText count status line → IsChecked bytes status line
  refused : (fault : HostFault) → IsModuleFault bytes fault → IsRefusalText fault status line → IsChecked bytes status line

abbrev pub Checks : List ℕ → List ℕ → List ℕ → CallAnswer → ℕ → Type 0
Checks bytes old new answer status = MayTell (IsChecked bytes) old new answer status

-- The report of thread 0 is answered, if there is one.
abbrev pub with_first : CallAnswer → List ThreadReport → CallAnswer
with_first a [] = a
with_first a (report ∷ reports) = answer_with a report

-- Memory was refused, and a buffer and the answer are as they were.
pub record Keeps (before : CallAnswer) (old new : List ℕ) (answer : CallAnswer) (status : ℕ) : Type 0 where
  pub five : status ≡ 5
  pub kept : new ≡ old
  pub answer_is : answer ≡ before

-- The record of a run is put into the buffer, and how it ended is answered.
pub record KeepsWhole (made : MadeRun) (before : CallAnswer) (old new : List ℕ) (answer : CallAnswer)
    (status : ℕ) : Type 0 where
  pub puts : Puts old (record_text made.record) new
  pub answer_is : answer ≡ with_first (record before { bytes = length (record_text made.record) }) made.end.threads.items
  pub status_is : status ≡ status_of made.end.threads.items

-- The same, and its status is answered; nothing is, and all stays, where memory was refused.
abbrev pub KeepsRun : MadeRun → CallAnswer → List ℕ → List ℕ → CallAnswer → Option ℕ → Type 0
KeepsRun made before old new answer None = (new ≡ old) × (answer ≡ before)
KeepsRun made before old new answer (Some status) = KeepsWhole made before old new answer status

-- What comes of a run that is wanted: memory was refused; or it was made, and this holds of it; or there is none, by a
-- fault of which that holds.
pub data Comes (Stays : Type 0) (IsRun : MadeRun → Type 0) (IsFault : HostFault → Type 0) (old new : List ℕ)
    (answer : CallAnswer) (status : ℕ) : Type 0 where
  fails : Stays → Keeps no_answer old new answer status → Comes Stays IsRun IsFault old new answer status
  ran : (made : MadeRun) → IsRun made → KeepsWhole made no_answer old new answer status
      → Comes Stays IsRun IsFault old new answer status
  refused : (fault : HostFault) → IsFault fault → status ≡ status_of_fault fault → new ≡ old → answer ≡ no_answer
      → Comes Stays IsRun IsFault old new answer status

abbrev pub RunsNamed : List ℕ → List ℕ → List Word → Options → List ℕ → List ℕ → CallAnswer → ℕ → Type 0
RunsNamed bytes name words o old new answer status =
    Comes (Unit {0}) (IsRunBy bytes name (values_by words) (plan_by o))
    (IsFaultOf bytes name (values_by words) (plan_by o)) old new answer status

-- A name that is no UTF-8 is no function's.
pub record HasNoName (name old new : List ℕ) (answer : CallAnswer) (status : ℕ) : Type 0 where
  pub none : IsUtf8 name → ⊥
  pub three : status ≡ 3
  pub kept : new ≡ old
  pub answer_is : answer ≡ no_answer

abbrev pub Runs : List ℕ → List ℕ → List Word → Options → List ℕ → List ℕ → CallAnswer → ℕ → Type 0
Runs bytes name words o old new answer status =
    HasNoName name old new answer status ⊎ RunsNamed bytes name words o old new answer status

-- Of a replay: what the run left, of which and of whose line this holds, or why there is none, by a fault of which that
-- holds.
pub data IsReplayed (IsRun : EndState → List ℕ → Type 0) (IsFault : HostFault → Type 0) (status : ℕ)
    (line : List ℕ) : Type 0 where
  ran : (end : EndState) → IsRun end line → IsRunText end status line → IsReplayed IsRun IsFault status line
  refused : (fault : HostFault) → IsFault fault → IsRefusalText fault status line
      → IsReplayed IsRun IsFault status line

-- The memory of a run is put into the buffer.
pub record PutsMemory (bytes saved old new : List ℕ) (answer : CallAnswer) : Type 0 where
  pub end : EndState
  pub run : IsReplayOf bytes saved end
  pub length_is : answer.bytes ≡ length end.bytes.items
  pub puts : Puts old end.bytes.items new

pub record Replays (bytes saved memory memory' old new : List ℕ) (answer : CallAnswer) (status : ℕ) : Type 0 where
  pub told : MayTell (IsReplayed (λ end line. IsReplayOf bytes saved end) (IsReplayFault bytes saved)) old new answer status
  pub memory_is : ((memory' ≡ memory) × (answer.bytes ≡ 0)) ⊎ PutsMemory bytes saved memory memory' answer

-- Of a search through so many states at most: all endings, of which this holds, or why there are none, by a fault of
-- which that holds.
pub data IsSearched (AreAll : Ended Ending → Type 0) (IsFault : HostFault → Type 0) (most status : ℕ)
    (line : List ℕ) : Type 0 where
  met : (all : Ended Ending) → AreAll all → IsSearchText all most status line → IsSearched AreAll IsFault most status line
  refused : (fault : HostFault) → IsFault fault → IsRefusalText fault status line
      → IsSearched AreAll IsFault most status line

abbrev pub SearchesNamed : List ℕ → List ℕ → List Word → Options → List ℕ → List ℕ → CallAnswer → ℕ → Type 0
SearchesNamed bytes name words o old new answer status =
    MayTell
    (IsSearched (HasEndings bytes name (values_by words) o.states o.dump) (IsCallFaultOf bytes name (values_by words))
    o.states)
    old new answer status

-- A name that is no UTF-8 is no function's, and told as such.
pub record TellsNoName (name old new : List ℕ) (answer : CallAnswer) (status : ℕ) : Type 0 where
  pub none : IsUtf8 name → ⊥
  pub told : TellsFault (faults.Call UnknownExport) old new answer status

abbrev pub Searches : List ℕ → List ℕ → List Word → Options → List ℕ → List ℕ → CallAnswer → ℕ → Type 0
Searches bytes name words o old new answer status =
    TellsNoName name old new answer status ⊎ SearchesNamed bytes name words o old new answer status
