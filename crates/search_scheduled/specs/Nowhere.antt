-- Where a strategy leads to no run that a record tells.
use Rattle.std.specs.Prelude.{ℕ, ◌≡◌, ◌+◌, ◌<◌, ◌⊎◌, List, length, Option, Some, None, get_or, slice_index}
use Rattle.std.specs.List.{slice_get}
use Rattle.types.specs.declared.event.Entry.{Entry}
use Rattle.types.specs.declared.outcome.Outcome.{Outcome}
use Rattle.types.specs.declared.outcome.ThreadReport.{ThreadReport}
use Rattle.shared_memory.specs.Memory.{Memory}
use Rattle.interp_trait.specs.Turns.{Running, Meaning, left_of}
use Rattle.interp_trait.specs.declared.turn.Turn.TheVariants.{Awaits}
use Rattle.interp.specs.Threads.{meaning_in}
use Rattle.interp.specs.declared.thread.Thread.{Thread}
use Rattle.spawn_host.specs.Requests.{Requested}
use Rattle.spawn_host.specs.declared.end.EndState.{EndState}
use Rattle.replay_text.specs.Text.{IsRecord}
use Rattle.replay_text.specs.declared.parts.RecordParts.{RecordParts}
use Rattle.replay_rules.specs.Recorded.{IsRecordedRun}
use Rattle.replay_walk.specs.Walked.{Run, start}
use Rattle.replay_walk.specs.declared.walk.Walk.{Walk}
use Rattle.replay.specs.Runs.{IsRunOf}
use Rattle.search_scheduled.specs.Courses.{CameAlong, IsEachReady, IsLed}
use Rattle.search_scheduled.specs.Headers.{HasHeaderOf, IsOfRequest}
use Rattle.search_scheduled.specs.Led.{IsOver}
use Rattle.search_scheduled.specs.Settled.{SettlesWhereGoing}
use Rattle.search_scheduled.specs.SpareThreads.{HasBegunFor}
use Rattle.search_scheduled.specs.declared.course.Course.{Course}

module _ {S : Type 0} (meaning : S → Meaning) where
  -- A thread makes its turns of its own, and waits for an answer then: it makes no entry.
  pub record MakesNoEntry (w : Walk S) (n : ℕ) : Type 0 where
    pub settled : Walk S
    pub waits : SettlesWhereGoing meaning n w Awaits settled

  -- A thread has left, with the outcome of this report and after so many units.
  pub record IsReportOf (w : Walk S) (n : ℕ) (report : ThreadReport) : Type 0 where
    pub thread : S
    pub at : slice_get w.threads.items n ≡ Some thread
    pub outcome : get_or w.stage.ends n None ≡ Some report.outcome
    pub spent : (t : Running) → (meaning thread).stands t → report.spent + left_of t ≡ (meaning thread).fuel

  -- The reports of the threads below a number, in order; those of all that were started.
  pub record AreReportsBelow (w : Walk S) (n : ℕ) (reports : List ThreadReport) : Type 0 where
    pub count : length reports ≡ n
    pub each : (m : ℕ) → m < n → (d : ThreadReport) → IsReportOf w m (get_or reports m d)

  abbrev pub AreReports : Walk S → List ThreadReport → Type 0
  AreReports w reports = AreReportsBelow w w.stage.started reports

  -- One that was started hasn't left.
  pub record LacksReport (w : Walk S) : Type 0 where
    pub number : ℕ
    pub started : number < w.stage.started
    pub none : (thread : S) (outcome : Outcome) → slice_get w.threads.items number ≡ Some thread
        → get_or w.stage.ends number None ≡ Some outcome → ⊥

  -- No record with this header and the course's log is of a run that it is on.
  abbrev pub HasNoRecord : RecordParts → Course S → Type 0
  HasNoRecord header c = (r : Run) (made : RecordParts) (last : Memory) → CameAlong meaning r c
      → r.threads ≡ header.threads → r.budget ≡ header.fuel → r.limit ≡ header.limit → HasHeaderOf header made
      → made.log ≡ c.log.items → IsRecordedRun (start r) made last → ⊥

  module _ {Q : Type 0} (chooses : Q → List ℕ → Option ℕ → Q → Type 0) (hears : Q → Entry → Q → Type 0) where
    -- A strategy led it to where it names a thread that can go on, which makes no entry.
    pub record IsStranded (first : Course S) (q : Q) : Type 0 where
      pub course : Course S
      pub before : Q
      pub led : IsLed meaning chooses hears first q course before
      pub ready : List ℕ
      pub each : IsEachReady meaning course.walk.stage ready
      pub place : ℕ
      pub asked : Q
      pub chosen : chooses before ready (Some place) asked
      pub none : MakesNoEntry course.walk (slice_index ready place)

module _ (q : Requested) (limit : ℕ) where
  -- No record of a run of what is requested has this log; or there is one, and a number in it is out of its range.
  abbrev pub IsOfNoRun : List Entry → Type 0
  IsOfNoRun log = (made : RecordParts) (end : EndState) → IsOfRequest q limit made → made.log ≡ log
      → IsRunOf q.parts made end → ⊥

  pub record IsOutOfRange (log : List Entry) : Type 0 where
    pub made : RecordParts
    pub end : EndState
    pub header : IsOfRequest q limit made
    pub log_is : made.log ≡ log
    pub run : IsRunOf q.parts made end
    pub none : IsRecord made → ⊥

  module _ {Q : Type 0} (chooses : Q → List ℕ → Option ℕ → Q → Type 0) (hears : Q → Entry → Q → Type 0) where
    -- From the beginning of what is requested a strategy led it to where it is over, and that has no record.
    pub record IsLedNowhere (first : Course Thread) (before : Q) : Type 0 where
      pub last : Course Thread
      pub after : Q
      pub led : IsLed meaning_in chooses hears first before last after
      pub over : IsOver meaning_in limit last
      pub none : IsOfNoRun last.log.items ⊎ IsOutOfRange last.log.items

    -- So it has no end, or it is stranded.
    pub record HasNoEnd (before : Q) : Type 0 where
      pub first : Course Thread
      pub begun : HasBegunFor meaning_in q limit first
      pub nowhere : IsLedNowhere first before ⊎ IsStranded meaning_in chooses hears first before
