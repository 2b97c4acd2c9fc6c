-- Ways to the endings of a call.
use Rattle.std.specs.Prelude.{◌≡◌, ◌⊎◌, ℕ, Bool}
use Rattle.allowed_races.specs.declared.allowed.Allowed.{Allowed}
use Rattle.types.specs.declared.limits.TheConstants.{MOST_THREADS}
use Rattle.schedule.specs.System.{State}
use Rattle.schedule_threads.specs.Shared.{Shared}
use Rattle.spawn_host.specs.Requests.{Requested}
use Rattle.search_endings.specs.Endings.{Ending}
use Rattle.search_reach.specs.Search.{StepSystem}
use Rattle.search_reach.specs.Liveness.{HasWays}
use Rattle.search_reach.specs.declared.ending.Ended as endings
use Rattle.search_settled.specs.Settled.{turning}
use Rattle.search_settled.specs.Next.{StandsForState, IsFirstOf}
use Rattle.search_race_free.specs.Reduced.{StandsBefore, KeepsTouches, SomeRace}
use Rattle.search_runs.specs.Called.{Walker as Thread, system_of, first_state}
use Rattle.search_runs.specs.Ends.{HasEndedSo}
use Rattle.search_modules.specs.Liveness.{IsOfCall, Searching, is_same_state, Owned, is_same_owned}
use Rattle.search_modules.specs.Moved.{called, threads, threads_by, IsStuck}
use Rattle.search_modules.specs.declared.called.Searched.{Searched}

-- What is gone through by such states: the turns of the threads of the call, from where it begins.
abbrev pub gone_by : {S : Type 0} → (Searched → S → State Shared Thread → (ℕ → ℕ) → Type 0) → (Searched → S → ℕ → S → Type 0)
    → (Searched → State Shared Thread → Type 0) → Searched → StepSystem S (State Shared Thread) Ending
gone_by stands follows stuck s = record {
  worlds = turning (system_of (called s));
  most = MOST_THREADS;
  stands = stands s;
  follows = follows s;
  begins = IsFirstOf (first_state (called s));
  ends = HasEndedSo s.dump;
  stuck = stuck s;
}

-- By states of either kind.
abbrev pub by_states : Searched → StepSystem Searching (State Shared Thread) Ending
by_states = gone_by (λ s. StandsForState (threads s)) (λ s c n x. Unit {0}) IsStuck

abbrev pub by_owned : Allowed → Searched → StepSystem Owned (State Shared Thread) Ending
by_owned allowed = gone_by (λ s. StandsBefore (threads_by allowed s)) (λ s. KeepsTouches (threads_by allowed s))
    (λ s w. IsStuck s w ⊎ SomeRace (threads_by allowed s))

-- The choices of a search by this call, whose endings have so many first bytes, lead where they are said to lead, from
-- state to state of the call.
pub record HasWaysBy {S : Type 0} (eq : S → S → Bool) (gone : Searched → StepSystem S (State Shared Thread) Ending)
    (r : Requested) (dump : ℕ) (ended : endings.Ended Ending) : Type 0 where
  pub searched : Searched
  pub call : IsOfCall r searched
  pub dump_is : searched.dump ≡ dump
  pub ways : HasWays (gone searched) eq ended

-- Of a search through every order of events, and of one through the orders of what isn't plain, where so much may race.
abbrev pub HasWaysOf : Requested → ℕ → endings.Ended Ending → Type 0
HasWaysOf = HasWaysBy is_same_state by_states

abbrev pub HasWaysFreely : Requested → Allowed → ℕ → endings.Ended Ending → Type 0
HasWaysFreely r allowed = HasWaysBy is_same_owned (by_owned allowed) r
