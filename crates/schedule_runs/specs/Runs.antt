-- The threads of a module that ran together, and the history that they made: as the theorem of one schedule asks for
-- them.
use Rattle.std.specs.Prelude.{ℕ, zero, suc, ◌≡◌, Bool, List, [], ◌++◌, map, Option, Some, None}
use Rattle.types.specs.declared.event.Event.{Event}
use Rattle.types.specs.declared.event.Reply.{Reply}
use Rattle.types.specs.declared.event.Answer.{Answer}
use Rattle.types.specs.declared.event.Entry as entries
use Rattle.types.specs.declared.outcome.Outcome.{Outcome}
use Rattle.types.specs.declared.limits.TheConstants.{MOST_THREADS}
use Rattle.shared_memory.specs.Memory.{Memory}
use Rattle.shared_memory.specs.WaitQueue.{first_queue}
use Rattle.shared_memory.specs.History.{entries_of, queue_after}
use Rattle.shared_memory.specs.Legal.{IsMemoryLegal, IsQueueLegal}
use Rattle.waiters.specs.Queue.{arg_of}
use Rattle.schedule.specs.System.{Entry, System, put}
use Rattle.schedule.specs.System as systems
use Rattle.schedule.specs.Histories.{Place, Place.Unstarted, Place.Free}
use Rattle.schedule.specs.Machine.{Thread, Thread.Absent, Thread.Runs, Thread.Left}
use Rattle.interp_machine.specs.Program.{Program}
use Rattle.interp_machine.specs.State.{State}
use Rattle.schedule_threads.specs.Shared.{Shared, over_memory_and_queue, act_of}
use Rattle.schedule_threads.specs.Threads.{machine_of}
use Rattle.schedule_threads.specs.Seeing.{RunsToEnd}

-- A recorded history, as a history of acts.
abbrev pub acted : entries.Entry → Entry Event Reply Answer
acted e = record { thread = e.thread; act = act_of e }

abbrev pub as_acts : List entries.Entry → List (Entry Event Reply Answer)
as_acts H = map acted H

-- What a module starts with: its program; the state in which thread 0 begins, and the one in which a spawned thread
-- begins, by its number and argument; the budget of each; and the opening memory.
pub record Start : Type 0 where
  pub program : Program
  pub main : State
  pub spawned : ℕ → ℕ → State
  pub fuel : ℕ
  pub opening : Memory

-- Its threads, over the memory and the wait queue.
abbrev pub system_of : Start → System Shared (Thread State Outcome) Event Reply Answer
system_of b = over_memory_and_queue (machine_of b.program) b.spawned b.fuel

-- At first the opening memory is there, nobody sleeps, and of so many threads as there may be thread 0 alone is there.
abbrev pub shared_for : ℕ → Start → Shared
shared_for most b = record { memory = b.opening; queue = first_queue most }

abbrev pub state_for : ℕ → Start → systems.State Shared (Thread State Outcome)
state_for most b = record { shared = shared_for most b; threads = put (λ (m : ℕ). Absent) 0 (Runs b.main b.fuel) }

-- A run has 64 threads at most.
abbrev pub first_shared : Start → Shared
first_shared b = shared_for MOST_THREADS b

abbrev pub first_state : Start → systems.State Shared (Thread State Outcome)
first_state b = state_for MOST_THREADS b

abbrev pub first_places : ℕ → Place Answer
first_places = put (λ (m : ℕ). Unstarted) 0 Free

-- The state in which the thread of a number begins, if a history starts it: thread 0 is there from the beginning, and
-- another one by its spawn, with the argument of that.
abbrev pub if_spawned : (ℕ → State) → Option ℕ → Option State
if_spawned spawned None = None
if_spawned spawned (Some arg) = Some (spawned arg)

abbrev pub begins_in : Start → List entries.Entry → ℕ → Option State
begins_in b H zero = Some b.main
begins_in b H (suc k) = if_spawned (b.spawned (suc k)) (arg_of (queue_after H) (suc k))

-- Thread n of a history ran from its beginning in a state to its end: it began where it saw that it was started, and
-- had entered nothing; and the history goes on from the last list that it saw, without entries of it.
pub record HasRun (b : Start) (loses : Bool) (limit : Option ℕ) (H : List entries.Entry) (n : ℕ) (c : State)
    (outcome : Outcome) (left : ℕ) : Type 0 where
  pub before : List entries.Entry
  pub last : List entries.Entry
  pub unseen : List entries.Entry
  pub begun : begins_in b before n ≡ Some c
  pub fresh : entries_of n before ≡ []
  pub run : RunsToEnd b.program loses b.opening limit n (Runs c b.fuel) outcome left before last
  pub history : H ≡ last ++ unseen
  pub apart : entries_of n unseen ≡ []

-- Each thread that the history starts did, and came to its outcome with so many units left.
abbrev pub AllHaveRun : Start → Bool → Option ℕ → List entries.Entry → (ℕ → Outcome) → (ℕ → ℕ) → Type 0
AllHaveRun b loses limit H outcomes lefts =
    (n : ℕ) (c : State) → begins_in b H n ≡ Some c → HasRun b loses limit H n c (outcomes n) (lefts n)

-- Each entry is of a thread that the history starts.
abbrev pub AreOfThreads : Start → List entries.Entry → Type 0
AreOfThreads b H = (n : ℕ) → begins_in b H n ≡ None → entries_of n H ≡ []

-- Threads made a history together: it is legal for the memory and for the wait queue, each thread ran to its end in it,
-- and nobody else entered anything.
pub record RanTogether (b : Start) (loses : Bool) (limit : Option ℕ) (H : List entries.Entry) (outcomes : ℕ → Outcome)
    (lefts : ℕ → ℕ) : Type 0 where
  pub memory : IsMemoryLegal b.opening H
  pub queue : IsQueueLegal H
  pub threads : AllHaveRun b loses limit H outcomes lefts
  pub entries : AreOfThreads b H

-- How each thread stands in the end.
abbrev pub end_if : Option State → Outcome → ℕ → Thread State Outcome
end_if None outcome left = Absent
end_if (Some c) outcome left = Left outcome left

abbrev pub ends_of : Start → List entries.Entry → (ℕ → Outcome) → (ℕ → ℕ) → ℕ → Thread State Outcome
ends_of b H outcomes lefts n = end_if (begins_in b H n) (outcomes n) (lefts n)
