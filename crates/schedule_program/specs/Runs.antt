-- Where the machine stands: its threads, its memory and its queue are those of a state of the scheduled machine.
use Rattle.std.specs.Prelude.{ℕ, zero, suc, ◌≡◌, ◌<◌, ◌≤◌, List, [], ◌++◌, length, map, Option}
use Rattle.std.specs.Prelude.{Some, None, MatchOption, option_to_list}
use Rattle.std.specs.Global.{Vec}
use Rattle.std.specs.List.{slice_get}
use Rattle.types.specs.declared.event.Event.{Event}
use Rattle.types.specs.declared.event.Question.{Question}
use Rattle.types.specs.declared.event.Question.TheVariants.{Spawn}
use Rattle.types.specs.declared.event.Reply.{Reply}
use Rattle.types.specs.declared.event.Answer.{Answer}
use Rattle.types.specs.declared.event.Entry as entries
use Rattle.types.specs.declared.outcome.Outcome.{Outcome}
use Rattle.types.specs.declared.outcome.ThreadReport.{ThreadReport}
use Rattle.types.specs.declared.limits.TheConstants.{MOST_THREADS}
use Rattle.shared_memory.specs.Memory.{Memory}
use Rattle.shared_memory.specs.WaitQueue.{WaitQueue, next_id, after_question, answer_due, after_answer}
use Rattle.schedule.specs.System.{State, Want.Calls, put}
use Rattle.schedule.specs.System as systems
use Rattle.schedule.specs.Scheduled.{after_mark, after_event, entries_at, entries_made, scheduled_run, or_started}
use Rattle.schedule.specs.Machine.{Thread.Absent, Thread.Runs, Thread.Left}
use Rattle.interp_machine.specs.Config.{Config}
use Rattle.interp_machine.specs.State.{At}
use Rattle.schedule_threads.specs.Shared.{Shared}
use Rattle.schedule_threads.specs.Seeing.{entered}
use Rattle.schedule_runs.specs.Runs.{first_state}
use Rattle.interp_trait.specs.Turns.{Running, wants_of, Meaning}
use Rattle.schedule_machine.specs.Threads.{Setting, called}
use Rattle.schedule_machine.specs.Runs.{IsOrderly, MayHear, all_hear, first_thread, spawned_at, start_of, started_by}
use Rattle.schedule_machine.specs.Runs.{system_by}
use Rattle.schedule_program.specs.Threads.{IsThread, report_of}
use Rattle.schedule_program.specs.declared.mark.Kind as kinds
use Rattle.schedule_program.specs.declared.mark.Kind.TheVariants as marks
use Rattle.schedule_program.specs.declared.mark.Mark as mark
use Rattle.schedule_program.specs.declared.stepped.Stepped.{Stepped}
use Rattle.schedule_program.specs.declared.stepping.Machine.{Machine}

-- A mark as the schedule has it.
abbrev pub kind_of : kinds.Kind → systems.Kind
kind_of marks.Turn = systems.Turn
kind_of marks.Loses = systems.Loses
kind_of marks.Fills = systems.Fills

abbrev pub mark_of : mark.Mark → systems.Mark
mark_of m = record { thread = m.thread; kind = kind_of m.kind }

-- The threads after a spawn, which starts one under the next number while there is room for it.
abbrev pub with_spawned : Setting → ℕ → ℕ → (ℕ → Running) → ℕ → Running
with_spawned s next arg threads m = or_started (spawned_at s next arg m) (threads m)

-- Entries of the scheduled machine as those of a history.
abbrev pub entry_of : systems.Entry Event Reply Answer → entries.Entry
entry_of e = entered e.thread e.act

abbrev pub as_entries : List (systems.Entry Event Reply Answer) → List entries.Entry
as_entries made = map entry_of made

-- The reports of the threads below a number that have left, in order.
abbrev pub reports_below : ℕ → ℕ → (ℕ → Running) → List ThreadReport
reports_below zero fuel threads = []
reports_below (suc k) fuel threads = reports_below k fuel threads ++ option_to_list (report_of fuel (threads k))

-- A queue after a thread has taken the answer that was due to it, if one was.
abbrev pub TakesDue : WaitQueue → WaitQueue → ℕ → Type 0
TakesDue before after n = MatchOption (answer_due before n) (after ≡ before) (λ _. after ≡ after_answer before n)

-- Where a question is a spawn, there is a slot for each number.
abbrev pub HasSlots : Question → ℕ → Type 0
HasSlots question slots = (arg : ℕ) → question ≡ Spawn arg → slots ≡ MOST_THREADS

-- A state after a mark of a thread, and after a schedule; the entries of that.
abbrev pub after_kind : ℕ → systems.Kind → Setting → State Shared Running → State Shared Running
after_kind n kind s w = after_mark (system_by s) w n kind

abbrev pub after_marks : List mark.Mark → Setting → State Shared Running → State Shared Running
after_marks marks s w = scheduled_run (system_by s) w (map mark_of marks)

abbrev pub entries_along : List mark.Mark → Setting → State Shared Running → List entries.Entry
entries_along marks s w = as_entries (entries_made (system_by s) w (map mark_of marks))

-- The event that a thread wants in a state, if it wants one.
abbrev pub event_called : Setting → State Shared Running → ℕ → Option Event
event_called s w n = called (wants_of s.program (w.threads n))

module _ {S : Type 0} (meaning : S → Meaning) where
  abbrev pub IsThreadAt : Setting → Option (Stepped S) → Running → Type 0
  IsThreadAt s None t = t ≡ Absent
  IsThreadAt s (Some x) t = IsThread meaning s x t

  -- The threads in a list, and no others, stand for those of a family.
  abbrev pub AreThreads : Setting → List (Stepped S) → (ℕ → Running) → Type 0
  AreThreads s xs threads = (m : ℕ) → IsThreadAt s (slice_get xs m) (threads m)

  -- There is a thread for each number, where threads can be spawned.
  pub record IsAt (s : Setting) (machine : Machine S) (w : State Shared Running) : Type 0 where
    pub shared : w.shared ≡ record { memory = machine.memory; queue = machine.queue }
    pub threads : AreThreads s machine.threads.items w.threads
    pub slots : 0 < s.program.imported → length machine.threads.items ≡ MOST_THREADS
    pub next : machine.next_id ≡ next_id machine.queue
    pub orderly : IsOrderly s.program w.shared.queue w.threads

  -- The machine is at some state of some run, and what holds at each state that it is at.
  abbrev pub IsSomewhere : Machine S → Type 0
  IsSomewhere machine = (s : Setting) × (w : State Shared Running) × IsAt s machine w

  abbrev pub AtEach : Machine S → (Setting → State Shared Running → Type 0) → Type 0
  AtEach machine P = (s : Setting) (w : State Shared Running) → IsAt s machine w → P s w

  -- From each state that it was at, it has come to this one.
  abbrev pub StepsTo : Machine S → Machine S → (Setting → State Shared Running → State Shared Running) → Type 0
  StepsTo before after to = AtEach before (λ s w. IsAt s after (to s w))

  -- It begins as a run does, with thread 0 at its start, and a slot for each number where threads can be spawned.
  abbrev pub BeginsWith : List (Stepped S) → Memory → Machine S → Type 0
  BeginsWith xs memory machine = (s : Setting) (main : Config) → AreThreads s xs (first_thread (Runs (At main) s.fuel))
      → (0 < s.program.imported → length xs ≡ MOST_THREADS) → IsAt s machine (first_state (start_of s main memory))

  -- What is handed out at a mark is the entry that the mark makes, if it makes one.
  abbrev pub MakesEntry : Machine S → Option entries.Entry → ℕ → systems.Kind → Type 0
  MakesEntry machine made n kind =
      AtEach machine (λ s w. option_to_list made ≡ as_entries (entries_at (system_by s) w n kind))

  -- Behind the entries that were there come those that a schedule makes.
  abbrev pub AddsEntries : Machine S → List mark.Mark → Vec entries.Entry → Vec entries.Entry → Type 0
  AddsEntries machine marks before after =
      AtEach machine (λ s w. after.items ≡ before.items ++ entries_along marks s w)

  -- A list has the reports of the threads that have left; one that has left has no more units left than it had at
  -- first.
  abbrev pub AreReports : Machine S → List ThreadReport → Type 0
  AreReports machine reports = AtEach machine (λ s w. reports ≡ reports_below MOST_THREADS s.fuel w.threads)

  abbrev pub LeavesWithin : Machine S → ℕ → Type 0
  LeavesWithin machine n = (s : Setting) (w : State Shared Running) (outcome : Outcome) (left : ℕ) → IsAt s machine w
      → w.threads n ≡ Left outcome left → left ≤ s.fuel

  -- A thread wants no event; it has gone on by itself.
  abbrev pub CallsNothing : Machine S → ℕ → Type 0
  CallsNothing machine n = (s : Setting) × (w : State Shared Running) × IsAt s machine w × (event_called s w n ≡ None)

  abbrev pub GoesByItself : Machine S → Machine S → ℕ → Type 0
  GoesByItself before after n =
      AtEach before (λ s w. event_called s w n ≡ None → IsAt s after (after_kind n systems.Turn s w))

  -- A thread wants an event; it has made it.
  abbrev pub IsToMake : Machine S → ℕ → Event → Type 0
  IsToMake machine n event = (s : Setting) × (w : State Shared Running) × IsAt s machine w
      × (wants_of s.program (w.threads n) ≡ Calls event)

  abbrev pub MakesEvent : Machine S → Machine S → ℕ → Event → Type 0
  MakesEvent before after n event = AtEach before (λ s w. wants_of s.program (w.threads n) ≡ Calls event
      → IsAt s after (after_event (system_by s) w n event))

  -- To whom an answer is due may hear it; one thread hears it, or each.
  abbrev pub MayBeTold : List (Stepped S) → WaitQueue → Type 0
  MayBeTold xs q = (s : Setting) × (f : ℕ → Running) × AreThreads s xs f × MayHear s f q

  abbrev pub OneHears : WaitQueue → ℕ → List (Stepped S) → List (Stepped S) → Type 0
  OneHears q n xs ys = (s : Setting) (f : ℕ → Running) → AreThreads s xs f → MayHear s f q
      → AreThreads s ys (put f n (all_hear s f q n))

  abbrev pub EachHears : WaitQueue → List (Stepped S) → List (Stepped S) → Type 0
  EachHears q xs ys = (s : Setting) (f : ℕ → Running) → AreThreads s xs f → MayHear s f q
      → AreThreads s ys (all_hear s f q)

  -- A question can be asked where who is told by it awaits that, and nobody is under the next number; each thread after
  -- it.
  abbrev pub IsToAsk : Machine S → ℕ → Question → ℕ → Type 0
  IsToAsk machine n question loaded = (s : Setting) × (f : ℕ → Running) × AreThreads s machine.threads.items f
      × MayHear s f (after_question machine.queue n question loaded) × (f machine.next_id ≡ Absent)

  abbrev pub AsksQuestion : Machine S → Machine S → ℕ → Question → ℕ → Type 0
  AsksQuestion before after n question loaded = (s : Setting) (f : ℕ → Running) → AreThreads s before.threads.items f
      → MayHear s f (after_question before.queue n question loaded) → f before.next_id ≡ Absent
      → AreThreads s after.threads.items (started_by s f before.queue n question loaded)

  -- Nobody is under the next number; a thread was started there, if there was room for it.
  abbrev pub NextIsAbsent : Machine S → Type 0
  NextIsAbsent machine = (s : Setting) × (f : ℕ → Running) × AreThreads s machine.threads.items f
      × (f machine.next_id ≡ Absent)

  abbrev pub StartsNext : Machine S → Machine S → ℕ → Type 0
  StartsNext before after arg = (s : Setting) (f : ℕ → Running) → AreThreads s before.threads.items f
      → f before.next_id ≡ Absent → AreThreads s after.threads.items (with_spawned s before.next_id arg f)
