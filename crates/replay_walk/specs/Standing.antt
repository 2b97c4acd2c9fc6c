-- Where a walk along a log stands: its threads, its memory and its queue are those of the scheduled machine.
use Rattle.std.specs.Prelude.{ℕ, ◌≡◌, ◌≢◌, ◌+◌, ◌<◌, ◌≤◌, Bool, true, false, List, length, Option, Some, None, get_or}
use Rattle.std.specs.Prelude.{slice_set}
use Rattle.std.specs.List.{slice_get}
use Rattle.types.specs.declared.value.Value.{Value}
use Rattle.types.specs.declared.event.Event.{Event}
use Rattle.types.specs.declared.event.Event.TheVariants.{Ask}
use Rattle.types.specs.declared.event.Reply.{Reply}
use Rattle.types.specs.declared.event.Reply.TheVariants as replies
use Rattle.types.specs.declared.event.Answer.{Answer}
use Rattle.types.specs.declared.outcome.Outcome.{Outcome}
use Rattle.types.specs.declared.event.Question.{Question}
use Rattle.types.specs.declared.event.Question.TheVariants.{Leave, Spawn}
use Rattle.types.specs.declared.limits.TheConstants.{MOST_THREADS}
use Rattle.shared_memory.specs.Memory.{Memory, reply_of, state_after}
use Rattle.shared_memory.specs.Events.{IsEvent}
use Rattle.shared_memory.specs.WaitQueue.{WaitQueue, is_alive, next_id}
use Rattle.shared_memory.specs.Sound.{IsSound}
use Rattle.schedule.specs.System.{Want.Calls, Want.Awaits, Act.Made, System, put}
use Rattle.schedule.specs.System as systems
use Rattle.schedule.specs.Histories.{Place, Place.Unstarted, Place.Free, Place.Open, Place.Due, next_places}
use Rattle.schedule.specs.Machine.{Thread.Absent, Thread.Runs, Thread.Leaves, Thread.Left, thread_hears}
use Rattle.interp_machine.specs.Program.{Program}
use Rattle.interp_machine.specs.Config.{Config}
use Rattle.interp_machine.specs.State.{State}
use Rattle.schedule_threads.specs.Shared.{Shared, without_dues, over_memory_and_queue}
use Rattle.schedule_threads.specs.Threads.{machine_of}
use Rattle.schedule_runs.specs.Places.{place_of}
use Rattle.interp_trait.specs.Turns.{Running, outcome_of, wants_of, left_of, Meaning, spawn_types, spawned_in, IsHere}
use Rattle.interp_trait.specs.Turns.{MakesTurn, MayBeSpawned, MayRun, WantsEvent}
use Rattle.interp_trait.specs.declared.turn.Given.{Given}
use Rattle.interp_trait.specs.declared.turn.Turn.{Turn}
use Rattle.interp_trait.specs.declared.turn.Turn.TheVariants as turns
use Rattle.replay_walk.specs.declared.stage.Stage.{Stage}
use Rattle.replay_rules.specs.Walk.{ComesTo, after_made}

-- What a turn says of a thread that wants no turn of its own.
abbrev pub Says : Program → Running → Turn → Type 0
Says p t turns.Moved = ⊥
Says p t (turns.Wants event) = (outcome_of t ≡ None) × (wants_of p t ≡ Calls event) × IsEvent event
Says p t turns.Awaits = (outcome_of t ≡ None) × (wants_of p t ≡ Awaits)
Says p t (turns.Ended outcome) = outcome_of t ≡ Some outcome

-- By turns of its own a thread came to one that wants something else, and a turn says what.
pub record SettlesAs (p : Program) (t : Running) (turn : Turn) (Stands : Running → Type 0) : Type 0 where
  pub settled : Running
  pub turns : ℕ
  pub comes : (start : ℕ → ℕ → State) (fuel : ℕ)
      → ComesTo (over_memory_and_queue (machine_of p) start fuel) turns t settled
  pub stands : Stands settled
  pub here : IsHere settled
  pub says : Says p settled turn

-- So it does at each thread that it stands for, if that is here.
abbrev pub SettlesInto : Meaning → Turn → Meaning → Type 0
SettlesInto before turn after = (t : Running) → before.stands t → IsHere t
    → SettlesAs before.program t turn after.stands

-- Where the scheduled machine stands: the program, the call of a spawned thread and the budget, its state, and the
-- threads' places.
pub record Standing : Type 0 where
  pub program : Program
  pub worker : List Value → Config
  pub budget : ℕ
  pub memory : Memory
  pub state : systems.State Shared Running
  pub places : ℕ → Place Answer

abbrev pub system_at : Standing → System Shared Running Event Reply Answer
system_at s = over_memory_and_queue (machine_of s.program) (spawned_in s.worker) s.budget

module _ {S : Type 0} (meaning : S → Meaning) where
  -- A thread stands at its place: it runs;
  pub record RunsAt (slot : Option S) (t : Running) : Type 0 where
    pub thread : S
    pub at : slot ≡ Some thread
    pub standing : (meaning thread).stands t
    pub here : IsHere t

  -- it waits for the answer to its question;
  pub record WaitsAt (p : Program) (slot : Option S) (t : Running) : Type 0 where
    pub thread : S
    pub at : slot ≡ Some thread
    pub standing : (meaning thread).stands t
    pub here : IsHere t
    pub outcome : outcome_of t ≡ None
    pub waits : wants_of p t ≡ Awaits

  -- it waits for that answer, which the machine's thread has heard already;
  pub record IsTold (p : Program) (slot : Option S) (t : Running) (answer : Answer) : Type 0 where
    pub awaiting : Running
    pub waits : WaitsAt p slot awaiting
    pub told : t ≡ thread_hears (machine_of p) awaiting answer

  -- it ended with so many units left, before it asked to leave.
  pub record IsGone (slot : Option S) (left : ℕ) : Type 0 where
    pub thread : S
    pub at : slot ≡ Some thread
    pub last : Running
    pub standing : (meaning thread).stands last
    pub same : left_of last ≡ left

  -- A thread by its place in the history, and how it left, if it has.
  abbrev pub StandsAt : Program → (List Value → Config) → Place Answer → Running → Option S → Option Outcome → Bool
      → Type 0
  StandsAt p worker Unstarted t slot None alive = (t ≡ Absent)
      × ((x : S) → slot ≡ Some x → (meaning x).begins spawn_types worker)
  StandsAt p worker Free t slot None alive = RunsAt slot t × (alive ≡ true)
  StandsAt p worker Open t slot None alive = WaitsAt p slot t × (alive ≡ true)
  StandsAt p worker (Due answer) t slot None alive = IsTold p slot t answer × (alive ≡ true)
  StandsAt p worker Unstarted t slot (Some outcome) alive = ⊥
  StandsAt p worker Free t slot (Some outcome) alive = (left : ℕ) × (t ≡ Left outcome left) × IsGone slot left
  StandsAt p worker Open t slot (Some outcome) alive = (left : ℕ) × (t ≡ Leaves outcome left) × IsGone slot left
  StandsAt p worker (Due answer) t slot (Some outcome) alive = (left : ℕ) × (t ≡ Left outcome left) × IsGone slot left

  -- A walk's threads and queue, how many threads were started, and how each ended that asked to leave, are those of the
  -- scheduled machine.
  pub record IsStanding (s : Standing) (threads : List S) (queue : WaitQueue) (begun : ℕ) (ends : List (Option Outcome))
      : Type 0 where
    pub shared : s.state.shared ≡ record { memory = s.memory; queue = without_dues queue }
    pub places : (m : ℕ) → s.places m ≡ place_of queue m
    pub sound : IsSound queue
    pub started : begun ≡ next_id queue
    pub slots : length ends ≡ MOST_THREADS
    pub alike : (m : ℕ) (x : S) → slice_get threads m ≡ Some x
        → ((meaning x).program ≡ s.program) × ((meaning x).fuel ≡ s.budget)
    pub each : (m : ℕ) → StandsAt s.program s.worker (s.places m) (s.state.threads m) (slice_get threads m)
        (get_or ends m None) (is_alive queue m)

  -- So it is by the stage of the walk.
  abbrev pub StageStands : Standing → List S → Stage → Type 0
  StageStands s threads stage = IsStanding s threads stage.queue stage.started stage.ends

  -- After an answer that was due to a thread, only its place is another.
  pub record IsToldOn (s : Standing) (n : ℕ) (answer : Answer) (threads : List S) (queue : WaitQueue) (begun : ℕ)
      (ends : List (Option Outcome)) : Type 0 where
    pub due : s.places n ≡ Due answer
    pub standing : IsStanding (record s { places = put s.places n Free }) threads queue begun ends

module _ {S : Type 0} (meaning : S → Meaning) where
  -- One of the threads is another; its program and its budget are the same.
  pub record IsReplaced (x : S) (threads : List S) (n : ℕ) (after : List S) : Type 0 where
    pub now : S
    pub list : after ≡ slice_set threads n now
    pub same_program : (meaning now).program ≡ (meaning x).program
    pub same_fuel : (meaning now).fuel ≡ (meaning x).fuel

  -- It made a turn;
  pub record IsTurnedAt (x : S) (given : Given) (turn : Turn) (threads : List S) (n : ℕ) (after : List S) : Type 0 where
    pub replaced : IsReplaced x threads n after
    pub turned : MakesTurn (meaning x) given turn (meaning replaced.now)

  -- or made turns of its own until it wanted more.
  pub record SettlesAt (x : S) (turn : Turn) (threads : List S) (n : ℕ) (after : List S) : Type 0 where
    pub replaced : IsReplaced x threads n after
    pub settled : SettlesInto (meaning x) turn (meaning replaced.now)

  -- A spawned thread begins with its number and the argument of its spawn.
  pub record IsStartedAt (x : S) (worker : List Value → Config) (arg : ℕ) (threads : List S) (n : ℕ) (after : List S)
      : Type 0 where
    pub replaced : IsReplaced x threads n after
    pub begun : (meaning replaced.now).stands (Runs (spawned_in worker n arg) (meaning x).fuel)

-- The machine after an event of thread n, where t is the thread that makes it.
abbrev pub made_by : Standing → ℕ → Event → Reply → Running → Standing
made_by s n e v t = record s {
  memory = state_after s.memory e;
  state = after_made (system_at s) s.state n e t;
  places = next_places (system_at s) (s.state.shared) s.places n (Made e v);
}

module _ {S : Type 0} (meaning : S → Meaning) where
  -- A walk stands, but for thread n, which isn't asking and has made turns of its own.
  pub record IsSettledOn (s : Standing) (threads : List S) (queue : WaitQueue) (begun : ℕ)
      (ends : List (Option Outcome)) (n : ℕ) (t : Running) : Type 0 where
    pub before : List S
    pub standing : IsStanding meaning s before queue begun ends
    pub thread : S
    pub at : slice_get threads n ≡ Some thread
    pub stood : (meaning thread).stands t
    pub here : IsHere t
    pub alike : ((meaning thread).program ≡ s.program) × ((meaning thread).fuel ≡ s.budget)
    pub others : (m : ℕ) → m ≢ n → slice_get threads m ≡ slice_get before m
    pub alive : is_alive queue n ≡ true
    pub going : get_or ends n None ≡ None
    pub free : s.places n ≡ Free

  abbrev pub StageSettles : Standing → List S → Stage → ℕ → Running → Type 0
  StageSettles s threads stage n t = IsSettledOn s threads stage.queue stage.started stage.ends n t

  -- Thread n may be taken: it runs, is alive, and hasn't asked to leave.
  pub record IsGoing (s : Standing) (threads : List S) (queue : WaitQueue) (ends : List (Option Outcome)) (n : ℕ)
      : Type 0 where
    pub free : s.places n ≡ Free
    pub runs : RunsAt meaning (slice_get threads n) (s.state.threads n)
    pub alive : is_alive queue n ≡ true
    pub going : get_or ends n None ≡ None

-- A thread has left.
pub record HasGone (t : Running) : Type 0 where
  pub outcome : Outcome
  pub left : ℕ
  pub gone : t ≡ Left outcome left

module _ {S : Type 0} (meaning : S → Meaning) where
  -- Of the threads one was replaced: it made a turn; or it made turns of its own until it wanted more; or it was
  -- started.
  abbrev pub TurnsAt : List S → ℕ → Given → Turn → List S → Type 0
  TurnsAt xs n g turn ys = (x : S) → slice_get xs n ≡ Some x → IsTurnedAt meaning x g turn xs n ys

  abbrev pub SettlesThread : List S → ℕ → Turn → List S → Type 0
  SettlesThread xs n turn ys = (x : S) → slice_get xs n ≡ Some x → SettlesAt meaning x turn xs n ys

  abbrev pub StartsAt : List S → ℕ → ℕ → List S → Type 0
  StartsAt xs n arg ys = (x : S) (worker : List Value → Config) → slice_get xs n ≡ Some x
      → (meaning x).begins spawn_types worker → IsStartedAt meaning x worker arg xs n ys

  -- The thread of a number may make turns.
  abbrev pub MayRunAt : List S → ℕ → Type 0
  MayRunAt xs n = (x : S) → slice_get xs n ≡ Some x → MayRun (meaning x)

  -- It wants an event.
  abbrev pub WantsAt : List S → ℕ → Event → Type 0
  WantsAt xs n event = (x : S) → slice_get xs n ≡ Some x → (t : Running) × WantsEvent (meaning x) event t

  -- After an answer was handed to a thread the stage stands so, at its place; an answer isn't due to it at all.
  abbrev pub Hands : List S → Stage → ℕ → List S → Stage → Answer → Type 0
  Hands xs before n ys after answer = (s : Standing) → StageStands meaning s xs before
      → IsToldOn meaning s n answer ys after.queue after.started after.ends

  abbrev pub IsNotDue : List S → Stage → ℕ → Answer → Type 0
  IsNotDue xs stage n answer = (s : Standing) → StageStands meaning s xs stage → s.places n ≡ Due answer → ⊥

  -- A thread may be taken; it has left, if its place is free.
  abbrev pub MayBeTaken : Stage → ℕ → Type 0
  MayBeTaken stage n = (s : Standing) (xs : List S) → StageStands meaning s xs stage
      → IsGoing meaning s xs stage.queue stage.ends n

  abbrev pub HasGoneIfFree : Stage → ℕ → Type 0
  HasGoneIfFree stage n = (s : Standing) (xs : List S) → StageStands meaning s xs stage → s.places n ≡ Free
      → HasGone (s.state.threads n)

  -- A thread that has settled, and has ended so, has asked to leave.
  abbrev pub LeavesAs : Stage → Stage → ℕ → Outcome → Type 0
  LeavesAs before after n outcome = (s : Standing) (t u : Running) (xs : List S) → StageSettles meaning s xs before n t
      → wants_of s.program u ≡ Calls (Ask Leave) → outcome_of u ≡ Some outcome → left_of u ≡ left_of t → IsHere u
      → StageStands meaning (made_by s n (Ask Leave) replies.Done u) xs after

  -- Where a question is a spawn, and a number is left, the thread of that number can be spawned; it was started there.
  abbrev pub MaySpawn : List S → Stage → Question → Type 0
  MaySpawn xs stage question = (arg : ℕ) → question ≡ Spawn arg → stage.started < length stage.queue.due
      → (stage.started < length xs) × ((x : S) → slice_get xs stage.started ≡ Some x → MayBeSpawned (meaning x))

  abbrev pub StartsSpawned : List S → Stage → Question → List S → Stage → Type 0
  StartsSpawned xs before question ys after = (arg : ℕ) → question ≡ Spawn arg
      → before.started < length before.queue.due → (after.started ≡ before.started + 1)
      × StartsAt xs before.started arg ys

  -- A thread has settled, and wants an event; that was made, if the reply is the memory's.
  abbrev pub IsToMakeOn : List S → Stage → Memory → ℕ → Event → Type 0
  IsToMakeOn xs stage memory n event = (s : Standing) × (t : Running) × StageSettles meaning s xs stage n t
      × (s.memory ≡ memory) × (outcome_of t ≡ None) × (wants_of s.program t ≡ Calls event)

  abbrev pub MakesOn : List S → Stage → Memory → ℕ → Event → Reply → List S → Stage → Type 0
  MakesOn xs before memory n event reply ys after = (s : Standing) (t : Running) → StageSettles meaning s xs before n t
      → s.memory ≡ memory → outcome_of t ≡ None → wants_of s.program t ≡ Calls event
      → (reply ≡ reply_of s.memory event) × StageStands meaning (made_by s n event reply t) ys after

-- All numbers are given out; and nobody was started.
abbrev pub HasNoNumberLeft : Stage → Type 0
HasNoNumberLeft stage = length stage.queue.due ≤ stage.started

abbrev pub StartsNobody : {S : Type 0} → Stage → Stage → List S → List S → Type 0
StartsNobody before after xs ys = (after.started ≡ before.started) × (ys ≡ xs)

-- Only the queue may have changed.
abbrev pub KeepsThreads : {S : Type 0} → Stage → Stage → List S → List S → Type 0
KeepsThreads before after xs ys = (ys ≡ xs) × (after.started ≡ before.started) × (after.ends ≡ before.ends)

-- Who is spawned by a question, if there is room for it.
abbrev pub is_spawn : Question → Bool
is_spawn (Spawn arg) = true
is_spawn question = false

-- A reply with which an event was entered.
abbrev pub IsAnswered : Reply → Type 0
IsAnswered (replies.Value v) = Unit {0}
IsAnswered replies.Done = Unit {0}
IsAnswered replies.OutOfBounds = Unit {0}
IsAnswered replies.Again = ⊥
IsAnswered replies.Full = ⊥
