-- A worked example: two threads over one word and a queue in which one thread can sleep.
use Rattle.std.specs.Prelude.{ℕ, ◌≡◌, ◌+◌, ◌==◌, Bool, true, false, cond, List, [], ◌∷◌, ◌++◌, Option, Some, None}
use Rattle.schedule.specs.System.{Act.Made, Act.Heard, Step, Step.Own, Step.Lost, Step.Acts, Entry, Kind, Kind.Turn}
use Rattle.schedule.specs.System.{Kind.Loses, Mark, System, State, put}
use Rattle.schedule.specs.Scheduled.{scheduled_run}
use Rattle.schedule.specs.Histories.{Place, Place.Unstarted, Place.Free, IsLegalHistory}
use Rattle.schedule.specs.Tries.{TryRules}
use Rattle.schedule.specs.Schedules.{schedule_of, ThreadsRun, AllHaveSeen, Follows, Makes, LoseAsMany, AllGone}
use Rattle.schedule.specs.Schedules.{GivesEnds}
use Rattle.schedule.specs.Machine.{Wish, Wish.Goes, Wish.Asks, Wish.Waits, Wish.Ends, Machine, MachineLaws, Thread}
use Rattle.schedule.specs.Machine.{Thread.Absent, Thread.Runs, Thread.Left, system}

-- A number is added to the word; a thread sleeps if the word is this one; who sleeps is woken; a thread starts; one
-- leaves.
pub data Event : Type 0 where
  Add : ℕ → Event
  Wait : ℕ → Event
  Notify : Event
  Spawn : Event
  Leave : Event

abbrev pub is_question : Event → Bool
is_question (Add k) = false
is_question _ = true

abbrev pub is_add : Event → Bool
is_add (Add k) = true
is_add _ = false

abbrev pub is_leave : Event → Bool
is_leave Leave = true
is_leave _ = false

-- The word, who sleeps, and the number of the next thread.
pub record Shared : Type 0 where
  pub word : ℕ
  pub sleeper : Option ℕ
  pub next : ℕ

-- The reply to an access is the word as it was.
abbrev pub reply_to : Shared → Event → Option ℕ
reply_to x (Add k) = Some x.word
reply_to x (Wait k) = Some x.word
reply_to x Notify = None
reply_to x Spawn = None
reply_to x Leave = None

abbrev pub shared_by : Shared → ℕ → Event → Shared
shared_by x n (Add k) = record { word = x.word + k; sleeper = x.sleeper; next = x.next }
shared_by x n (Wait k) = record { word = x.word; sleeper = cond (x.word == k) (Some n) x.sleeper; next = x.next }
shared_by x n Notify = record { word = x.word; sleeper = None; next = x.next }
shared_by x n Spawn = record { word = x.word; sleeper = x.sleeper; next = x.next + 1 }
shared_by x n Leave = x

abbrev pub how_many : Option ℕ → ℕ
how_many None = 0
how_many (Some n) = 1

abbrev pub if_asleep : Option ℕ → ℕ → Option ℕ
if_asleep None m = None
if_asleep (Some n) m = cond (m == n) (Some 0) None

-- A wait that doesn't sleep is told 1, a notify how many it woke and who slept 0, a spawn the number, and a leave 0.
abbrev pub answers_by : Shared → ℕ → Event → ℕ → Option ℕ
answers_by x n (Add k) m = None
answers_by x n (Wait k) m = cond (x.word == k) None (cond (m == n) (Some 1) None)
answers_by x n Notify m = cond (m == n) (Some (how_many x.sleeper)) (if_asleep x.sleeper m)
answers_by x n Spawn m = cond (m == n) (Some x.next) None
answers_by x n Leave m = cond (m == n) (Some 0) None

-- Programs think or make events; a configuration is at what is left of one, or waits for an answer before that.
pub data Instruction : Type 0 where
  Think : Instruction
  Do : Event → Instruction

pub data Configuration : Type 0 where
  At : List Instruction → Configuration
  Waiting : List Instruction → Configuration

pub data Outcome : Type 0 where
  Done : Outcome
  OutOfFuel : Outcome
  RecordFull : Outcome

abbrev pub wishes : Configuration → Wish Event Outcome
wishes (At []) = Ends Done
wishes (At (Think ∷ rest)) = Goes
wishes (At (Do e ∷ rest)) = Asks e
wishes (Waiting rest) = Waits

abbrev pub thinks : Configuration → Configuration
thinks (At []) = At []
thinks (At (i ∷ rest)) = At rest
thinks (Waiting rest) = Waiting rest

abbrev pub goes_on : Configuration → Option ℕ → Configuration
goes_on (At []) v = At []
goes_on (At (Think ∷ rest)) v = At rest
goes_on (At (Do e ∷ rest)) v = cond (is_question e) (Waiting rest) (At rest)
goes_on (Waiting rest) v = Waiting rest

abbrev pub is_told : Configuration → ℕ → Configuration
is_told (At rest) a = At rest
is_told (Waiting rest) a = At rest

abbrev pub machine : Machine Configuration Event (Option ℕ) ℕ Outcome
machine = record {
  wishes = wishes;
  goes = thinks;
  takes = goes_on;
  hears = is_told;
  opens = λ e v. is_question e;
  may_be_lost = is_add;
  is_exempt = is_leave;
  leave = Leave;
  out_of_fuel = OutOfFuel;
  record_full = RecordFull;
}

-- Thread 0 starts the other one, adds 5, and sleeps while the word is 5; the other one thinks, adds 1 and notifies.
abbrev pub first_program : List Instruction
first_program = Do Spawn ∷ Do (Add 5) ∷ Do (Wait 5) ∷ []

abbrev pub other_program : List Instruction
other_program = Think ∷ Do (Add 1) ∷ Do Notify ∷ []

abbrev pub starts_by : Shared → Event → ℕ → Option (Thread Configuration Outcome)
starts_by x (Add k) m = None
starts_by x (Wait k) m = None
starts_by x Notify m = None
starts_by x Spawn m = cond (m == x.next) (Some (Runs (At other_program) 10)) None
starts_by x Leave m = None

abbrev pub example : System Shared (Thread Configuration Outcome) Event (Option ℕ) ℕ
example =
    system machine (λ (x : Shared) (n : ℕ) (e : Event). reply_to x e)
    (λ (x : Shared) (n : ℕ) (e : Event). shared_by x n e)
    (λ (x : Shared) (n : ℕ) (e : Event) (m : ℕ). answers_by x n e m)
    (λ (x : Shared) (n : ℕ) (e : Event) (m : ℕ). starts_by x e m)

-- At first the word is 0, and thread 0 alone is there, with 10 units.
abbrev pub first_state : State Shared (Thread Configuration Outcome)
first_state = record {
  shared = record { word = 0; sleeper = None; next = 1 };
  threads = put (λ (m : ℕ). Absent) 0 (Runs (At first_program) 10);
}

abbrev pub first_places : ℕ → Place ℕ
first_places = put (λ (m : ℕ). Unstarted) 0 Free

abbrev pub made : ℕ → Event → Option ℕ → Entry Event (Option ℕ) ℕ
made n e v = record { thread = n; act = Made e v }

abbrev pub heard : ℕ → ℕ → Entry Event (Option ℕ) ℕ
heard n a = record { thread = n; act = Heard a }

-- Thread 1 is there, and thread 0 has added 5 and sleeps; so far thread 1 lost a try to add 1.
abbrev pub beginning : List (Entry Event (Option ℕ) ℕ)
beginning = made 0 Spawn None ∷ heard 0 1 ∷ made 0 (Add 5) (Some 0) ∷ made 0 (Wait 5) (Some 5) ∷ []

-- It adds, and wakes thread 0, which hears of it later; both leave.
abbrev pub ending : List (Entry Event (Option ℕ) ℕ)
ending =
    made 1 (Add 1) (Some 5) ∷ made 1 Notify None ∷ heard 1 1 ∷ made 1 Leave None ∷ heard 0 0 ∷ heard 1 0 ∷ made 0 Leave
    None ∷ heard 0 0 ∷ []

abbrev pub history : List (Entry Event (Option ℕ) ℕ)
history = beginning ++ ending

abbrev pub first_steps : List (Step Event (Option ℕ) ℕ)
first_steps = Acts (Made Spawn None) ∷ Acts (Heard 1) ∷ Acts (Made (Add 5) (Some 0)) ∷ Acts (Made (Wait 5)
    (Some 5)) ∷ Acts (Heard 0) ∷ Acts (Made Leave None) ∷ Acts (Heard 0) ∷ []

abbrev pub other_steps : List (Step Event (Option ℕ) ℕ)
other_steps = Own ∷ Lost (Add 1) ∷ Acts (Made (Add 1)
    (Some 5)) ∷ Acts (Made Notify None) ∷ Acts (Heard 1) ∷ Acts (Made Leave None) ∷ Acts (Heard 0) ∷ []

abbrev pub steps : ℕ → List (Step Event (Option ℕ) ℕ)
steps = put (put (λ (m : ℕ). []) 1 other_steps) 0 first_steps

-- Three of thread 0's units are spent, and four of thread 1's, one of them on the lost try.
abbrev pub ends : ℕ → Thread Configuration Outcome
ends = put (put (λ (m : ℕ). Absent) 1 (Left Done 6)) 0 (Left Done 7)

abbrev pub mark : ℕ → Kind → Mark
mark n kind = record { thread = n; kind = kind }

-- Adds touch the word; the log holds ten entries, and leaves.
abbrev pub rules : TryRules Shared Event ℕ
rules = record { loses = true; touched = λ x e. x.word; limit = Some 10; is_exempt = is_leave }

-- What one thread that steps both makes of it.
pub record WorkedRun : Type 0 where
  pub laws : MachineLaws machine
  pub run : ThreadsRun example first_state first_places steps ends history
  pub seen : AllHaveSeen example rules first_state first_places steps history
  pub schedule :
      schedule_of history steps
      ≡ mark 0 Turn ∷ mark 0 Turn ∷ mark 0 Turn ∷ mark 1 Turn ∷ mark 1 Loses ∷ mark 1 Turn ∷ mark 1 Turn ∷ mark 1 Turn
      ∷ mark 0 Turn ∷ []
  pub word : (scheduled_run example first_state (schedule_of history steps)).shared.word ≡ 6
  pub first_end : (scheduled_run example first_state (schedule_of history steps)).threads 0 ≡ Left Done 7
  pub other_end : (scheduled_run example first_state (schedule_of history steps)).threads 1 ≡ Left Done 6
  pub follows : Follows example rules first_state first_places history (schedule_of history steps)
  pub gives : GivesEnds example first_state first_places ends history (schedule_of history steps)

-- Another schedule: thread 1 thinks and loses its try at once, before thread 0 adds. The first mark has no step, since
-- a spawn is never lost.
abbrev pub another : List Mark
another =
    mark 0 Loses ∷ mark 0 Turn ∷ mark 1 Turn ∷ mark 1 Loses ∷ mark 0 Turn ∷ mark 0 Turn ∷ mark 1 Turn ∷ mark 1 Turn ∷
    mark 1 Turn ∷ mark 0 Turn ∷ []

-- It makes the history with as many lost tries, leaves both threads gone, and so gives the same ends.
pub record AnotherSchedule : Type 0 where
  pub makes : Makes example first_state history another
  pub losses : LoseAsMany example first_state (schedule_of history steps) another
  pub gone : AllGone example first_state first_places history another
  pub gives : GivesEnds example first_state first_places ends history another

-- Thread 1 hears what thread 0 was told: no legal history goes on so.
abbrev pub NoAnswerOfAnother : Type 0
NoAnswerOfAnother = (more : List (Entry Event (Option ℕ) ℕ))
    → IsLegalHistory example first_state.shared first_places (made 0 Spawn None ∷ heard 1 1 ∷ more) → ⊥

-- Thread 0 adds once more after it has left: no threads run so.
abbrev pub NoEntryAfterLeave : Type 0
NoEntryAfterLeave =
    (steps : ℕ → List (Step Event (Option ℕ) ℕ)) (ends : ℕ → Thread Configuration Outcome)
    → ThreadsRun example first_state first_places steps ends (history ++ made 0 (Add 1) (Some 6) ∷ []) → ⊥
