-- Which thread of the thread machine a thread of the program stands for.
use Rattle.std.specs.Prelude.{ℕ, ◌≡◌, ◌≤◌, ◌-◌, cond, not, Option, Some, None}
use Rattle.types.specs.declared.event.Event.{Event}
use Rattle.types.specs.declared.event.Reply.{Reply}
use Rattle.types.specs.declared.event.Answer.{Answer}
use Rattle.types.specs.declared.outcome.Outcome.{Outcome}
use Rattle.types.specs.declared.outcome.ThreadReport.{ThreadReport}
use Rattle.shared_memory.specs.Events.{is_exempt, may_lose}
use Rattle.schedule.specs.System.{Want.Calls, Want.Awaits}
use Rattle.schedule.specs.Machine.{Thread.Absent, Thread.Runs, Thread.Leaves, Thread.Left}
use Rattle.schedule.specs.Machine.{thread_takes, thread_hears, thread_lost, thread_full, thread_wants_a}
use Rattle.interp_machine.specs.Config.{Config}
use Rattle.interp_machine.specs.State.{At}
use Rattle.schedule_threads.specs.Threads.{machine_of}
use Rattle.interp_trait.specs.Turns.{Running, left_of, outcome_of, wants_of, own_turn_if, after_turn, spawned_in}
use Rattle.interp_trait.specs.Turns.{IsTurned, IsGiven, Meaning, IsHere, spawn_types}
use Rattle.interp_trait.specs.declared.turn.Given.{Given}
use Rattle.interp_trait.specs.declared.turn.Given.TheVariants as given
use Rattle.interp_trait.specs.declared.turn.Turn.{Turn}
use Rattle.schedule_machine.specs.Threads.{Setting, called, end_in}
use Rattle.schedule_program.specs.declared.stepped.Stage.{Stage}
use Rattle.schedule_program.specs.declared.stepped.Stage.TheVariants as stages
use Rattle.schedule_program.specs.declared.stepped.Stepped.{Stepped}

-- A thread has what all have in common.
pub record IsAlike {S : Type 0} (meaning : S → Meaning) (s : Setting) (x : S) : Type 0 where
  pub program_is : (meaning x).program ≡ s.program
  pub fuel_is : (meaning x).fuel ≡ s.fuel

-- It is ready to be spawned.
pub record IsPrepared {S : Type 0} (meaning : S → Meaning) (s : Setting) (x : S) : Type 0 where
  pub alike : IsAlike meaning s x
  pub ready : (meaning x).begins spawn_types s.worker

-- The report of a thread that has left: its outcome, and the units that it has spent of the budget.
abbrev pub report_of : ℕ → Running → Option ThreadReport
report_of fuel (Left outcome left) = Some (record { outcome = outcome; spent = fuel - left })
report_of fuel t = None

-- What a thread wants: no event, some event, or the answer to its question.
abbrev pub CallsNone : Setting → Running → Type 0
CallsNone s t = called (wants_of s.program t) ≡ None

abbrev pub CallsSome : Setting → Running → Type 0
CallsSome s t = (e : Event) × (wants_of s.program t ≡ Calls e)

abbrev pub AwaitsAnswer : Setting → Running → Type 0
AwaitsAnswer s t = wants_of s.program t ≡ Awaits

-- A thread after a turn of its own, if it wants one; after a reply, and after an answer.
abbrev pub own_turn_of : Setting → Running → Running
own_turn_of s t = own_turn_if s.program t (wants_of s.program t)

abbrev pub with_reply : Reply → Setting → Running → Running
with_reply reply s t = thread_takes (machine_of s.program) t reply

abbrev pub with_answer : Answer → Setting → Running → Running
with_answer answer s t = thread_hears (machine_of s.program) t answer

-- After it lost a try of its event, if that can be lost, and where the log is full, if the event needs room there.
abbrev pub with_lost_try : Setting → Running → Running
with_lost_try s t = cond (thread_wants_a (machine_of s.program) may_lose t) (thread_lost (machine_of s.program) t) t

abbrev pub with_full_log : Setting → Running → Running
with_full_log s t = cond (thread_wants_a (machine_of s.program) (λ e. not (is_exempt e)) t)
    (thread_full (machine_of s.program) t) t

module _ {S : Type 0} (meaning : S → Meaning) where
  -- By its stage. One that runs has been asked what it wants. One that left, or asked to, has what was left to it when
  -- it ended.
  abbrev pub StandsBy : Setting → S → Stage → Running → Type 0
  StandsBy s x stages.Absent t = (t ≡ Absent) × (meaning x).begins spawn_types s.worker
  StandsBy s x (stages.Runs turn) t = IsHere t × (outcome_of t ≡ None)
      × IsTurned s.program t given.Nothing turn (meaning x).stands
  StandsBy s x (stages.Ended outcome) t = IsHere t × (outcome_of t ≡ Some outcome) × (meaning x).stands t
  StandsBy s x (stages.Leaves outcome) t = (last : Running) × (meaning x).stands last
      × (t ≡ Leaves outcome (left_of last))
  StandsBy s x (stages.Left outcome) t = (last : Running) × (meaning x).stands last × (t ≡ Left outcome (left_of last))

  pub record IsThread (s : Setting) (x : Stepped S) (t : Running) : Type 0 where
    pub alike : IsAlike meaning s x.thread
    pub stands_by : StandsBy s x.thread x.stage t

  -- What holds of each thread of the machine that it stands for
  abbrev pub ForEach : Stepped S → (Setting → Running → Type 0) → Type 0
  ForEach x P = (s : Setting) (t : Running) → IsThread s x t → P s t

  -- It stands for some thread of which something holds.
  abbrev pub StandsForSome : Stepped S → (Setting → Running → Type 0) → Type 0
  StandsForSome x P = (s : Setting) × (t : Running) × IsThread s x t × P s t

  -- From each thread of which something holds, it has become another.
  abbrev pub BecomesWhere : Stepped S → Stepped S → (Setting → Running → Type 0) → (Setting → Running → Running)
      → Type 0
  BecomesWhere before after P to = ForEach before (λ s t. P s t → IsThread s after (to s t))

  abbrev pub Becomes : Stepped S → Stepped S → (Setting → Running → Running) → Type 0
  Becomes before after to = ForEach before (λ s t. IsThread s after (to s t))

  -- A thread of the program at its start is one of the machine that runs.
  abbrev pub IsRunningAs : S → Stepped S → Type 0
  IsRunningAs x stepped = (s : Setting) (c : Config) → IsAlike meaning s x → (meaning x).stands (Runs (At c) s.fuel)
      → IsThread s stepped (Runs (At c) s.fuel)

  -- One that wasn't started is spawned under a number with an argument.
  abbrev pub IsSpawnedAs : Stepped S → Stepped S → ℕ → ℕ → Type 0
  IsSpawnedAs before after n arg = (s : Setting) → IsThread s before Absent
      → IsThread s after (Runs (spawned_in s.worker n arg) s.fuel)

  -- One that has left has no more units left than it had at first.
  abbrev pub LeftWithin : Stepped S → Type 0
  LeftWithin x = (s : Setting) (outcome : Outcome) (left : ℕ) → IsThread s x (Left outcome left) → left ≤ s.fuel

  -- A thread of the program waits for a reply or an answer, and is still here after it; given that, it has become this
  -- one.
  abbrev pub AwaitsGiven : S → Given → Type 0
  AwaitsGiven x g = (t : Running) × (meaning x).stands t × IsHere (after_turn (meaning x).program t g)
      × IsGiven (meaning x).program t g

  abbrev pub TakesGiven : S → Stepped S → Given → Type 0
  TakesGiven x stepped g = (s : Setting) (t : Running) → IsAlike meaning s x → (meaning x).stands t
      → IsHere (after_turn s.program t g) → IsGiven s.program t g → IsThread s stepped (after_turn s.program t g)

  -- It is here after a turn that says whether it has ended; what is kept of it stands for it.
  abbrev pub HasTurned : S → Turn → Type 0
  HasTurned x turn = (t : Running) × (meaning x).stands t × IsHere t × (outcome_of t ≡ end_in turn)

  abbrev pub KeepsTurn : S → Stepped S → Turn → Type 0
  KeepsTurn x stepped turn = (s : Setting) (t : Running) → IsAlike meaning s x → (meaning x).stands t → IsHere t
      → outcome_of t ≡ end_in turn → IsThread s stepped t
