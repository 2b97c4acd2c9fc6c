-- Runs of threads with a budget beside runs of the same threads without one.
use Rattle.std.specs.Prelude.{ℕ, ◌≡◌, ◌<◌, ◌⊎◌, List, length, map, Option, Some, None}
use Rattle.schedule.specs.System.{Step, Entry, Mark, Kind.Turn, System, State}
use Rattle.schedule.specs.ThreadRun.{Laws}
use Rattle.schedule.specs.Scheduled.{scheduled_run, entries_made}
use Rattle.schedule.specs.Histories.{Place, Place.Unstarted, places_after, shared_after}
use Rattle.schedule.specs.Schedules.{ThreadsRun, Makes}
use Rattle.schedule.specs.Machine.{Machine, MachineLaws, Thread, Thread.Absent, Thread.Runs, Thread.Over, Thread.Leaves}
use Rattle.schedule.specs.Machine.{Thread.Left, system}
use Rattle.search_threads.specs.Unlimited.{Unlimited, Unlimited.Missing, Unlimited.Going, Unlimited.Leaving}
use Rattle.search_threads.specs.Unlimited.{Unlimited.Away, unlimited}

-- A thread, its units aside. One that stopped for want of them or for a full log is away.
abbrev pub unmetered : {C O : Type 0} → Thread C O → Unlimited C O
unmetered Absent = Missing
unmetered (Runs c left) = Going c
unmetered (Over o left) = Away o
unmetered (Leaves o left) = Leaving o
unmetered (Left o left) = Away o

abbrev pub unmetered_state : {X C O : Type 0} → State X (Thread C O) → State X (Unlimited C O)
unmetered_state w = record { shared = w.shared; threads = λ m. unmetered (w.threads m) }

-- The same thread, with some units, if it ever had some.
abbrev pub IsSame : {C O : Type 0} → Unlimited C O → Thread C O → Type 0
IsSame Missing t = t ≡ Absent
IsSame (Going c) t = (left : ℕ) × (t ≡ Runs c left)
IsSame (Leaving o) t = (left : ℕ) × (t ≡ Leaves o left)
IsSame (Away o) t = (left : ℕ) × (t ≡ Left o left)

-- The thread that starts in a configuration, if one does.
abbrev pub started_with : {C O : Type 0} → ℕ → Option C → Option (Thread C O)
started_with fuel None = None
started_with fuel (Some c) = Some (Runs c fuel)

abbrev pub started_without : {C O : Type 0} → Option C → Option (Unlimited C O)
started_without None = None
started_without (Some c) = Some (Going c)

abbrev pub first_with : {C O : Type 0} → ℕ → Option C → Thread C O
first_with fuel None = Absent
first_with fuel (Some c) = Runs c fuel

abbrev pub first_without : {C O : Type 0} → Option C → Unlimited C O
first_without None = Missing
first_without (Some c) = Going c

-- Turns alone, of the threads with these numbers.
abbrev pub turn_of : ℕ → Mark
turn_of n = record { thread = n; kind = Turn }

abbrev pub turns_of : List ℕ → List Mark
turns_of ns = map turn_of ns

module _ {C E V A O X : Type 0} (k : Machine C E V A O) (reply : X → ℕ → E → V) (after : X → ℕ → E → X) (gives : X → ℕ
    → E → ℕ → Option A)
    (starts : X → ℕ → E → ℕ → Option C) where
  -- The system of threads with a budget, and without one; the configuration in which an event starts a thread is the
  -- same.
  abbrev pub with_budget : ℕ → System X (Thread C O) E V A
  with_budget fuel = system k reply after gives (λ (x : X) (n : ℕ) (e : E) (m : ℕ). started_with fuel (starts x n e m))

  abbrev pub without_budget : System X (Unlimited C O) E V A
  without_budget = unlimited k reply after gives (λ (x : X) (n : ℕ) (e : E) (m : ℕ). started_without (starts x n e m))

  -- At first these threads run, in these configurations.
  abbrev pub first_state_with : ℕ → X → (ℕ → Option C) → State X (Thread C O)
  first_state_with fuel x first = record { shared = x; threads = λ m. first_with fuel (first m) }

  abbrev pub first_state_without : X → (ℕ → Option C) → State X (Unlimited C O)
  first_state_without x first = record { shared = x; threads = λ m. first_without (first m) }

  -- The states to which these come along so many turns of threads.
  abbrev pub end_with : ℕ → X → (ℕ → Option C) → List ℕ → State X (Thread C O)
  end_with fuel x first turns = scheduled_run (with_budget fuel) (first_state_with fuel x first) (turns_of turns)

  abbrev pub end_without : X → (ℕ → Option C) → List ℕ → State X (Unlimited C O)
  end_without x first turns = scheduled_run without_budget (first_state_without x first) (turns_of turns)

  -- No thread that is gone in the end stopped for want of units or for a full log.
  abbrev pub NobodyStops : (ℕ → Thread C O) → Type 0
  NobodyStops ends = (m left : ℕ) (o : O) → ends m ≡ Left o left → (o ≡ k.out_of_fuel) ⊎ (o ≡ k.record_full) → ⊥

  -- Turns alone, by which threads without a budget make the history, and come to the same ends.
  pub record RunsUnlimited (x : X) (first : ℕ → Option C) (places : ℕ → Place A) (ends : ℕ → Thread C O)
      (H : List (Entry E V A)) : Type 0 where
    pub turns : List ℕ
    pub makes : Makes without_budget (first_state_without x first) H (turns_of turns)
    pub shared : (end_without x first turns).shared ≡ shared_after without_budget x H
    pub threads : (m : ℕ) → (places_after without_budget x places H m ≡ Unstarted → ⊥)
        → (end_without x first turns).threads m ≡ unmetered (ends m)

  -- Along the same turns threads with a budget make the same entries, and come to the same but for units.
  pub record RunsWithBudget (fuel : ℕ) (x : X) (first : ℕ → Option C) (turns : List ℕ) : Type 0 where
    pub entries : entries_made (with_budget fuel) (first_state_with fuel x first) (turns_of turns)
        ≡ entries_made without_budget (first_state_without x first) (turns_of turns)
    pub shared : (end_with fuel x first turns).shared ≡ (end_without x first turns).shared
    pub threads : (m : ℕ) → IsSame ((end_without x first turns).threads m) ((end_with fuel x first turns).threads m)

-- Threads without a budget keep the laws of threads.
abbrev pub UnlimitedThreadsKeepTheLaws : (C E V A O X : Type 0) → Type 0
UnlimitedThreadsKeepTheLaws C E V A O X =
    (k : Machine C E V A O) → MachineLaws k
    → (reply : X → ℕ → E → V) (after : X → ℕ → E → X) (gives : X → ℕ → E → ℕ → Option A) (starts : X → ℕ → E → ℕ
    → Option C)
    → Laws (without_budget k reply after gives starts)

-- A run of threads with a budget in which nobody stops for want of units or for a full log is, units and lost tries
-- aside, one of threads without a budget.
abbrev pub RunsWithoutStopsNeedNoBudget : (C E V A O X : Type 0) → Type 0
RunsWithoutStopsNeedNoBudget C E V A O X =
    (k : Machine C E V A O) → MachineLaws k
    → (reply : X → ℕ → E → V) (after : X → ℕ → E → X) (gives : X → ℕ → E → ℕ → Option A) (starts : X → ℕ → E → ℕ
    → Option C)
    → (fuel : ℕ) (x : X) (first : ℕ → Option C) (places : ℕ → Place A) (steps : ℕ → List (Step E V A)) (ends : ℕ
    → Thread C O)
    → (H : List (Entry E V A))
    → ThreadsRun (with_budget k reply after gives starts fuel)
    (first_state_with k reply after gives starts fuel x first)
    places steps ends H
    → NobodyStops k reply after gives starts ends
    → RunsUnlimited k reply after gives starts x first places ends H

-- What threads without a budget make along so many turns, threads with a greater budget make too.
abbrev pub UnlimitedRunsHaveBudgets : (C E V A O X : Type 0) → Type 0
UnlimitedRunsHaveBudgets C E V A O X =
    (k : Machine C E V A O)
    → (reply : X → ℕ → E → V) (after : X → ℕ → E → X) (gives : X → ℕ → E → ℕ → Option A) (starts : X → ℕ → E → ℕ
    → Option C)
    → (fuel : ℕ) (x : X) (first : ℕ → Option C) (turns : List ℕ) → length turns < fuel
    → RunsWithBudget k reply after gives starts fuel x first turns
