-- The theorem of one schedule, and what stands around it. Types: shared states X, threads T, events E, replies V,
-- answers A, and W for what events touch.
use Rattle.std.specs.Prelude.{ℕ, ◌≡◌, List, [], ◌∷◌, ◌++◌, Option}
use Rattle.schedule.specs.System.{Act, Act.Made, Act.Heard, Step, Entry, Mark, System, State}
use Rattle.schedule.specs.ThreadRun.{acts, losses_between, IsThreadRun, Laws}
use Rattle.schedule.specs.Scheduled.{scheduled_run, entries_made, steps_made}
use Rattle.schedule.specs.Histories.{Place}
use Rattle.schedule.specs.Tries.{TryRules}
use Rattle.schedule.specs.Schedules.{schedule_of, ThreadsRun, IsOneSchedule, AllHaveSeen, Follows, Makes, LoseAsMany}
use Rattle.schedule.specs.Schedules.{AllGone, GivesEnds}
use Rattle.schedule.specs.Machine.{Machine, MachineLaws, Thread, Thread.Runs, Thread.Left, system}

-- The schedule of a legal history of threads that ran makes that history and each thread's steps, gives the shared
-- state after it and every thread's end, and leaves all threads gone.
abbrev pub OneSchedule : (X T E V A : Type 0) → Type 0
OneSchedule X T E V A =
    (s : System X T E V A) → Laws s
    → (first : State X T) (places : ℕ → Place A) (steps : ℕ → List (Step E V A)) (ends : ℕ → T) (H : List (Entry E V A))
    → ThreadsRun s first places steps ends H
    → IsOneSchedule s first places steps ends H (schedule_of H steps)

-- Where each thread saw lists of the history, step by step, its schedule follows it.
abbrev pub ScheduleFollows : (X T E V A W : Type 0) → Type 0
ScheduleFollows X T E V A W =
    (s : System X T E V A) (rules : TryRules X E W) → Laws s
    → (first : State X T) (places : ℕ → Place A) (steps : ℕ → List (Step E V A)) (ends : ℕ → T) (H : List (Entry E V A))
    → ThreadsRun s first places steps ends H
    → AllHaveSeen s rules first places steps H
    → Follows s rules first places H (schedule_of H steps)

-- Every other schedule that makes the history, loses as many tries of each thread between its neighbouring acts and
-- leaves all threads gone gives the same ends.
abbrev pub EveryOtherGivesTheSame : (X T E V A : Type 0) → Type 0
EveryOtherGivesTheSame X T E V A =
    (s : System X T E V A) → Laws s
    → (first : State X T) (places : ℕ → Place A) (steps : ℕ → List (Step E V A)) (ends : ℕ → T) (H : List (Entry E V A))
    → ThreadsRun s first places steps ends H
    → (S : List Mark) → Makes s first H S → LoseAsMany s first (schedule_of H steps) S → AllGone s first places H S
    → GivesEnds s first places ends H S

-- Threads with a budget, over a machine that keeps its laws, keep the laws of threads, whatever they share.
abbrev pub ThreadsWithBudgetsKeepTheLaws : (C E V A O X : Type 0) → Type 0
ThreadsWithBudgetsKeepTheLaws C E V A O X =
    (k : Machine C E V A O) → MachineLaws k
    → (reply : X → ℕ → E → V) (after : X → ℕ → E → X) (gives : X → ℕ → E → ℕ → Option A) (starts : X → ℕ → E → ℕ
    → Option (Thread C O))
    → Laws (system k reply after gives starts)

-- Such a thread enters a leave and its answer last, and has left.
pub record LeavesLast {C E V A O : Type 0} (k : Machine C E V A O) (acts : List (Act E V A)) (end : Thread C O)
    : Type 0 where
  pub before : List (Act E V A)
  pub reply : V
  pub answer : A
  pub outcome : O
  pub left : ℕ
  pub entries : acts ≡ before ++ Made k.leave reply ∷ Heard answer ∷ []
  pub ends : end ≡ Left outcome left

abbrev pub ThreadsLeaveLast : (C E V A O X : Type 0) → Type 0
ThreadsLeaveLast C E V A O X =
    (k : Machine C E V A O)
    → (reply : X → ℕ → E → V) (after : X → ℕ → E → X) (gives : X → ℕ → E → ℕ → Option A) (starts : X → ℕ → E → ℕ
    → Option (Thread C O))
    → (c : C) (fuel : ℕ) (steps : List (Step E V A)) (end : Thread C O)
    → IsThreadRun (system k reply after gives starts) (Runs c fuel) steps end
    → LeavesLast k (acts steps) end

-- Two runs of one thread with the same acts and as many lost tries between them come to the same end.
abbrev pub ActsAndLossesFixTheEnd : (X T E V A : Type 0) → Type 0
ActsAndLossesFixTheEnd X T E V A =
    (s : System X T E V A) → Laws s
    → (t end end' : T) (steps steps' : List (Step E V A)) → IsThreadRun s t steps end → IsThreadRun s t steps' end'
    → acts steps ≡ acts steps' → losses_between steps ≡ losses_between steps'
    → end ≡ end'

-- The scheduled machine goes on from where it is: along one schedule and then another it comes to what the second makes
-- of what the first made, and so do its entries and each thread's steps.
pub record GoesOn {X T E V A : Type 0} (s : System X T E V A) (w : State X T) (S S' : List Mark) : Type 0 where
  pub run : scheduled_run s w (S ++ S') ≡ scheduled_run s (scheduled_run s w S) S'
  pub entries : entries_made s w (S ++ S') ≡ entries_made s w S ++ entries_made s (scheduled_run s w S) S'
  pub steps : (m : ℕ) → steps_made s m w (S ++ S') ≡ steps_made s m w S ++ steps_made s m (scheduled_run s w S) S'

abbrev pub ScheduledRunsGoOn : (X T E V A : Type 0) → Type 0
ScheduledRunsGoOn X T E V A = (s : System X T E V A) (w : State X T) (S S' : List Mark) → GoesOn s w S S'
