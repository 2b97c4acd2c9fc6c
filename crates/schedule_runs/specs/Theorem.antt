-- What one thread makes of a run that steps all its threads.
use Rattle.std.specs.Prelude.{ℕ, ◌≡◌, Bool, List, Option, Some}
use Rattle.types.specs.declared.event.Event.{Event}
use Rattle.types.specs.declared.event.Reply.{Reply}
use Rattle.types.specs.declared.event.Answer.{Answer}
use Rattle.types.specs.declared.event.Entry as entries
use Rattle.types.specs.declared.outcome.Outcome.{Outcome}
use Rattle.shared_memory.specs.History.{memory_after}
use Rattle.shared_memory.specs.Legal.{IsWellFormed}
use Rattle.schedule.specs.System.{Step, Mark}
use Rattle.schedule.specs.Scheduled.{scheduled_run}
use Rattle.schedule.specs.Schedules.{schedule_of, ThreadsRun, AllHaveSeen, Makes, LoseAsMany, Follows}
use Rattle.schedule.specs.Machine.{Thread.Left}
use Rattle.interp_machine.specs.State.{State}
use Rattle.schedule_threads.specs.Shared.{try_rules}
use Rattle.schedule_runs.specs.Runs.{Start, system_of, first_state, first_places, as_acts, begins_in, ends_of}
use Rattle.schedule_runs.specs.Runs.{RanTogether}

-- Along a schedule all threads that the history starts have left.
abbrev pub AllHaveLeft : Start → List entries.Entry → List Mark → Type 0
AllHaveLeft b H S =
    (n : ℕ) (c : State) → begins_in b H n ≡ Some c
    → (outcome : Outcome) × (left : ℕ) × ((scheduled_run (system_of b) (first_state b) S).threads n ≡ Left outcome left)

-- Along a schedule the scheduled machine comes to the memory after the history, and each thread to its own outcome with
-- as many units left.
pub record GivesTheSame (b : Start) (H : List entries.Entry) (outcomes : ℕ → Outcome) (lefts : ℕ
    → ℕ) (S : List Mark) : Type 0 where
  pub memory : (scheduled_run (system_of b) (first_state b) S).shared.memory ≡ memory_after b.opening H
  pub threads : (n : ℕ) (c : State) → begins_in b H n ≡ Some c
      → (scheduled_run (system_of b) (first_state b) S).threads n ≡ Left (outcomes n) (lefts n)

-- A history is that of one run. Each entry comes in its thread's turn. Each thread has steps by which it runs to its
-- end, whose acts are its entries, and which saw the history as far as it went. The schedule of the history with these
-- steps follows it, and gives the same memory and ends. Every other schedule that makes the history, with as many lost
-- tries of each thread between its entries, and on which all threads leave, gives the same too.
pub record IsOneRun (b : Start) (loses : Bool) (limit : Option ℕ) (H : List entries.Entry) (outcomes : ℕ → Outcome)
    (lefts : ℕ → ℕ) : Type 0 where
  pub turns : IsWellFormed H
  pub steps : ℕ → List (Step Event Reply Answer)
  pub run : ThreadsRun (system_of b) (first_state b) first_places steps (ends_of b H outcomes lefts) (as_acts H)
  pub seen : AllHaveSeen (system_of b) (try_rules loses limit) (first_state b) first_places steps (as_acts H)
  pub follows : Follows (system_of b) (try_rules loses limit) (first_state b) first_places (as_acts H)
      (schedule_of (as_acts H) steps)
  pub gives : GivesTheSame b H outcomes lefts (schedule_of (as_acts H) steps)
  pub others : (S : List Mark) → Makes (system_of b) (first_state b) (as_acts H) S
      → LoseAsMany (system_of b) (first_state b) (schedule_of (as_acts H) steps) S → AllHaveLeft b H S
      → GivesTheSame b H outcomes lefts S

-- Threads that made a history together made one run.
abbrev pub ThreadsMakeOneRun : Type 0
ThreadsMakeOneRun =
    (b : Start) (loses : Bool) (limit : Option ℕ) (H : List entries.Entry) (outcomes : ℕ → Outcome) (lefts : ℕ → ℕ)
    → RanTogether b loses limit H outcomes lefts → IsOneRun b loses limit H outcomes lefts
