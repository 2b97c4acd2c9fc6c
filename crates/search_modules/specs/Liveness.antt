-- Whether all comes to an end, of the threads of a call without budgets.
use Rattle.std.specs.Prelude.{ℕ, ◌≡◌, ◌<◌, Bool, [], List, Contains, length, Option, Some}
use Rattle.std.specs.List.{slice_get, IsDistinct}
use Rattle.std.specs.List.Sorted.{IsStrictlyIncreasing}
use Rattle.std.specs.Option.{MatchOption}
use Rattle.allowed_races.specs.declared.allowed.Allowed.{Allowed}
use Rattle.schedule.specs.System.{State}
use Rattle.schedule_threads.specs.Shared.{Shared}
use Rattle.spawn_host.specs.Requests.{Requested}
use Rattle.search_endings.specs.Endings.{Ending}
use Rattle.search_graph.specs.Paths.{Reaches}
use Rattle.search_graph.specs.Worlds.{FairRun}
use Rattle.search_reach.specs.declared.liveness.FairRuns.{FairRuns}
use Rattle.search_reach.specs.declared.liveness.FairRuns.TheVariants.{AllEnd, GoOn, Unknown}
use Rattle.search_reach.specs.declared.liveness.Liveness.{Liveness}
use Rattle.search_reach.specs.declared.search.Verdict.{Verdict}
use Rattle.search_reach.specs.declared.search.Verdict.TheVariants as verdicts
use Rattle.search_settled.specs.Settled.{StepsBy, turning}
use Rattle.search_settled.specs.Next.{StandsForState}
use Rattle.search_settled.specs.Same.{flat_eq}
use Rattle.search_settled.specs.declared.flat.RestingState.{RestingState}
use Rattle.search_race_free.specs.declared.owning.Owning.{Owning}
use Rattle.search_race_free.specs.Reduced.{StandsBefore}
use Rattle.search_race_free.specs.Same.{owning_eq}
use Rattle.search_runs.specs.Called.{Called, Walker as Thread, system_of, first_state}
use Rattle.search_runs.specs.Ends.{HasEndedSo}
use Rattle.search_runs.specs.Theorems.{CanReach}
use Rattle.search_parts.specs.contracts.shared.CommonPartialEq.TheImpl as commons
use Rattle.search_parts.specs.contracts.shared.HashedThreadPartialEq.TheImpl as hashed
use Rattle.search_parts.specs.declared.shared.Common.{Common}
use Rattle.search_parts.specs.declared.shared.HashedThread.{HashedThread}
use Rattle.search_modules.specs.Moved.{called, threads, threads_by}
use Rattle.search_modules.specs.Returned.{IsCall}
use Rattle.search_modules.specs.declared.called.Searched.{Searched}

-- Turns lead from there to where all threads have ended, with so many first bytes.
pub record CanStillEnd (b : Called) (dump : ℕ) (w : State Shared Thread) : Type 0 where
  pub ending : Ending
  pub end : State Shared Thread
  pub path : Reaches (StepsBy (system_of b)) w end
  pub ended : HasEndedSo dump end ending

-- A run goes on for ever from the beginning: at each moment a thread that wants a turn of its own or an event makes its
-- next turn, and each that wants one makes it then or later.
abbrev pub HasFairRun : Called → Type 0
HasFairRun b = FairRun (turning (system_of b)) (first_state b)

abbrev pub SaysOfRuns : Called → FairRuns → Type 0
SaysOfRuns b AllEnd = HasFairRun b → ⊥
SaysOfRuns b (GoOn c) = HasFairRun b
SaysOfRuns b Unknown = Unit {0}

-- A state of the search: what is shared, and each thread at rest.
abbrev pub Searching : Type 0
Searching = RestingState Common HashedThread

-- They are equal.
abbrev pub is_same_state : Searching → Searching → Bool
is_same_state = flat_eq commons.eq-value.it hashed.eq-value.it

-- Threads can come to w, and from there, each by turns of its own, to rest in c.
abbrev pub RestsLater : Searched → Searching → State Shared Thread → Type 0
RestsLater s c w = (turns : ℕ → ℕ) × StandsForState (threads s) c w turns

-- The same beside what each thread has touched plainly since it last made anything else.
abbrev pub Owned : Type 0
Owned = Owning Searching

abbrev pub is_same_owned : Owned → Owned → Bool
is_same_owned = owning_eq commons.eq-value.it hashed.eq-value.it

-- Threads can come to w, and from there, by plain turns alone, each within what its thread owns, to rest in c; where so
-- much may race.
abbrev pub RestsPlainly : Allowed → Searched → Owned → State Shared Thread → Type 0
RestsPlainly allowed s c w = (turns : ℕ → ℕ) × StandsBefore (threads_by allowed s) c w turns

-- This is the call.
abbrev pub IsOfCall : Requested → Searched → Type 0
IsOfCall r s = IsCall r.parts r.name r.args (called s)

-- States of a search, when two are equal, and to which of them threads come from where.
module _ {S : Type 0} (eq : S → S → Bool) (rests : Searched → S → State Shared Thread → Type 0) where
  -- So many states, of which no two are equal; threads can come to each.
  pub record AreStatesBy (s : Searched) (keys : List S) (states : ℕ) : Type 0 where
    pub len : length keys ≡ states
    pub distinct : IsDistinct eq keys
    pub reached : (c : S) → Contains keys c → (w : State Shared Thread) × CanReach (called s) w × rests s c w

  abbrev pub CountsStatesBy : Requested → ℕ → Type 0
  CountsStatesBy r states = (s : Searched) × IsOfCall r s × (keys : List S) × AreStatesBy s keys states

  -- All of so many states, and what is said of them: the places of those from which no ending can be reached, each once,
  -- and whether a fair run goes on for ever.
  pub record SaysBy (r : Requested) (dump states : ℕ) (l : Liveness) : Type 0 where
    pub searched : Searched
    pub call : IsOfCall r searched
    pub keys : List S
    pub are : AreStatesBy searched keys states
    pub all : (w : State Shared Thread) → CanReach (called searched) w → (c : S) × Contains keys c × rests searched c w
    pub order : IsStrictlyIncreasing l.endless.items
    pub within : (p : ℕ) → Contains l.endless.items p → p < states
    pub never : (p : ℕ) (c : S) → slice_get keys p ≡ Some c → Contains l.endless.items p
        → (w : State Shared Thread) → rests searched c w → CanStillEnd (called searched) dump w → ⊥
    pub still : (p : ℕ) (c : S) → slice_get keys p ≡ Some c → (Contains l.endless.items p → ⊥)
        → (w : State Shared Thread) → rests searched c w → CanStillEnd (called searched) dump w
    pub every : l.endless.items ≡ [] → (w : State Shared Thread) → CanReach (called searched) w
        → CanStillEnd (called searched) dump w
    pub fair_runs : SaysOfRuns (called searched) l.fair_runs

  -- It is said where the search met all states, and there alone.
  abbrev pub SaysWhereAllBy : Requested → ℕ → ℕ → Verdict → Option Liveness → Type 0
  SaysWhereAllBy r dump states verdict o =
      MatchOption o (verdict ≡ verdicts.All → ⊥) (λ l. (verdict ≡ verdicts.All) × SaysBy r dump states l)

-- Of a search through every order of events.
abbrev pub CountsStates : Requested → ℕ → Type 0
CountsStates = CountsStatesBy is_same_state RestsLater

abbrev pub SaysOfCall : Requested → ℕ → ℕ → Liveness → Type 0
SaysOfCall = SaysBy is_same_state RestsLater

abbrev pub SaysWhereAll : Requested → ℕ → ℕ → Verdict → Option Liveness → Type 0
SaysWhereAll = SaysWhereAllBy is_same_state RestsLater

-- Of a search through the orders of what isn't plain.
abbrev pub CountsOwned : Requested → Allowed → ℕ → Type 0
CountsOwned r allowed = CountsStatesBy is_same_owned (RestsPlainly allowed) r

abbrev pub SaysWhereAllFree : Requested → Allowed → ℕ → ℕ → Verdict → Option Liveness → Type 0
SaysWhereAllFree r allowed = SaysWhereAllBy is_same_owned (RestsPlainly allowed) r
