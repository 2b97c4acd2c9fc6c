-- Runs of a module's threads, with and without budgets.
use Rattle.std.specs.Prelude.{ℕ, ◌≡◌, ◌≢◌, ◌+◌, Bool, List, length, take, Option, Some}
use Rattle.std.specs.List.{slice_get}
use Rattle.allowed_races.specs.declared.allowed.Allowed.{Allowed}
use Rattle.types.specs.declared.event.Entry as entries
use Rattle.types.specs.declared.outcome.Outcome.{Outcome}
use Rattle.types.specs.declared.outcome.Outcome.TheVariants as outcomes
use Rattle.types.specs.declared.outcome.Stop.TheVariants as stops
use Rattle.types.specs.declared.limits.TheConstants.{MOST_THREADS}
use Rattle.shared_memory.specs.Memory.{Memory, pages}
use Rattle.shared_memory.specs.WaitQueue.{WaitQueue}
use Rattle.shared_memory.specs.History.{memory_after, queue_after}
use Rattle.schedule.specs.System as systems
use Rattle.schedule.specs.Scheduled.{scheduled_run}
use Rattle.schedule_threads.specs.Shared.{Shared}
use Rattle.schedule_runs.specs.Runs.{RanTogether}
use Rattle.schedule_runs.specs.Runs as runs
use Rattle.search_threads.specs.Budgets.{IsSame, turns_of}
use Rattle.search_settled.specs.Settled.{AreTame, IsReached}
use Rattle.search_settled.specs.Levels.{ComesWithin}
use Rattle.search_race_free.specs.Wanted.{ArePlain}
use Rattle.search_race_free.specs.Search.{NoneBeyond, NobodyGoesOn}
use Rattle.search_runs.specs.Accesses.{access_of}
use Rattle.search_runs.specs.Called.{Called, Walker, with_fuel, system_of, first_state}
use Rattle.search_endings.specs.Endings.{Ending}
use Rattle.search_runs.specs.Ends.{HasEndedSo}

-- Answers go to who awaits them, only who isn't there is started, and at most 64 threads make turns.
abbrev pub ThreadsAreTame : Type 0
ThreadsAreTame = (b : Called) → AreTame (system_of b) (first_state b) MOST_THREADS

-- A plain access is nobody else's concern, unless it conflicts with theirs, whatever may race.
abbrev pub AccessesArePlain : Type 0
AccessesArePlain = (b : Called) (allowed : Allowed) (opening : ℕ)
    → ArePlain (system_of b) (access_of allowed opening) (first_state b)

-- At most 64 threads go on, and none that has left.
abbrev pub FewGoOn : Type 0
FewGoOn = (b : Called) (allowed : Allowed) (opening : ℕ)
    → NoneBeyond (system_of b) (access_of allowed opening) (first_state b) MOST_THREADS

abbrev pub NobodyGoesOnInTheEnd : Type 0
NobodyGoesOnInTheEnd = (b : Called) (allowed : Allowed) (opening dump : ℕ)
    → NobodyGoesOn (system_of b) (access_of allowed opening) (HasEndedSo dump)

-- It can be reached by turns of threads without budgets.
abbrev pub CanReach : Called → systems.State Shared Walker → Type 0
CanReach b w = IsReached (system_of b) (first_state b) w

-- The outcomes are those of thread 0 and of the threads that were spawned in the history, and none is a stop for want
-- of units or for a full log; pages and first bytes are those of the memory after it.
pub record IsEndingAlong (b : Called) (dump : ℕ) (H : List entries.Entry) (outcomes_of : ℕ
    → Outcome) (e : Ending) : Type 0 where
  pub count : length e.outcomes ≡ length (WaitQueue.args (queue_after H)) + 1
  pub are : (m : ℕ) (o : Outcome) → slice_get e.outcomes m ≡ Some o → o ≡ outcomes_of m
  pub has_units : (m : ℕ) (o : Outcome) → slice_get e.outcomes m ≡ Some o → o ≢ outcomes.Stop stops.OutOfFuel
  pub has_room : (m : ℕ) (o : Outcome) → slice_get e.outcomes m ≡ Some o → o ≢ outcomes.Stop stops.RecordFull
  pub pages_are : e.pages ≡ pages (memory_after b.opening H)
  pub bytes_are : e.bytes ≡ take dump (Memory.bytes (memory_after b.opening H))

-- However threads ran together, with whatever budget and whatever log, over a memory that loses tries or not: where
-- none of them stopped for want of units or for a full log, threads without budgets can end so.
abbrev pub EveryRunEndsSo : Type 0
EveryRunEndsSo =
    (b : Called) (fuel : ℕ) (loses : Bool) (limit : Option ℕ) (H : List entries.Entry) (outcomes_of : ℕ
    → Outcome) (lefts : ℕ → ℕ)
    → RanTogether (with_fuel b fuel) loses limit H outcomes_of lefts
    → (dump : ℕ) (e : Ending) → IsEndingAlong b dump H outcomes_of e
    → (w : systems.State Shared Walker) × CanReach b w × HasEndedSo dump w e

-- And by no more events than the history has entries.
abbrev pub EveryRunEndsWithin : Type 0
EveryRunEndsWithin =
    (b : Called) (fuel : ℕ) (loses : Bool) (limit : Option ℕ) (H : List entries.Entry) (outcomes_of : ℕ
    → Outcome) (lefts : ℕ → ℕ)
    → RanTogether (with_fuel b fuel) loses limit H outcomes_of lefts
    → (dump : ℕ) (e : Ending) → IsEndingAlong b dump H outcomes_of e
    → (w : systems.State Shared Walker) × ComesWithin (system_of b) (length H) (first_state b) w × HasEndedSo dump w e

-- What threads without budgets come to, the scheduled machine comes to along some turns, with some budget.
pub record IsScheduled (b : Called) (w : systems.State Shared Walker) : Type 0 where
  pub fuel : ℕ
  pub turns : List ℕ
  pub shared : (scheduled_run (runs.system_of (with_fuel b fuel)) (runs.first_state (with_fuel b fuel))
      (turns_of turns)).shared ≡ w.shared
  pub threads : (m : ℕ) → IsSame (w.threads m)
      ((scheduled_run (runs.system_of (with_fuel b fuel)) (runs.first_state (with_fuel b fuel))
      (turns_of turns)).threads m)

abbrev pub EveryEndIsScheduled : Type 0
EveryEndIsScheduled = (b : Called) (w : systems.State Shared Walker) → CanReach b w → IsScheduled b w
