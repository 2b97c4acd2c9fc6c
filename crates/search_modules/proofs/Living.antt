-- What a search says of its states, said of the threads of the call.
use Rattle.std.specs.Prelude.{ℕ, ◌≡◌, ◌<◌, Bool, List, [], Contains, Option, Some, None, refl}
use Rattle.std.proofs.Common.{subst, inl, inr, arith, ap, ◌∙◌}
use Rattle.std.specs.List.{slice_get}
use Rattle.std.proofs.lemmas.Option.{slice_get-get_or}
use Rattle.schedule.specs.System.{State}
use Rattle.schedule_threads.specs.Shared.{Shared}
use Rattle.spawn_host.specs.Requests.{Requested}
use Rattle.search_endings.specs.Endings.{Ending}
use Rattle.search_graph.specs.Paths.{Reaches}
use Rattle.search_graph.specs.Worlds.{FairRun}
use Rattle.search_reach.specs.Search.{StepSystem}
use Rattle.search_reach.specs.Liveness.{AreCounted, IsCount, CanEndSomehow, SaysOf, IsLive, IsLiveWhereAll}
use Rattle.search_reach.specs.declared.liveness.FairRuns.{FairRuns}
use Rattle.search_reach.specs.declared.liveness.FairRuns.TheVariants.{AllEnd, GoOn, Unknown}
use Rattle.search_reach.specs.declared.liveness.Liveness.{Liveness}
use Rattle.search_reach.specs.declared.search.Verdict.{Verdict}
use Rattle.search_settled.specs.Settled.{StepsBy, turning}
use Rattle.search_runs.specs.Called.{Called, Walker as Thread, system_of, first_state}
use Rattle.search_runs.specs.Theorems.{CanReach}
use Rattle.search_modules.specs.Moved.{called}
use Rattle.search_modules.specs.Ways.{gone_by}
use Rattle.search_modules.specs.Liveness.{CanStillEnd, SaysOfRuns, AreStatesBy, IsOfCall, CountsStatesBy, SaysBy, SaysWhereAllBy}
use Rattle.search_modules.specs.declared.called.Searched.{Searched}

module _ {S : Type 0} (eq : S → S → Bool) (stands : Searched → S → State Shared Thread → (ℕ → ℕ) → Type 0) (follows : Searched → S → ℕ → S → Type 0)
    (stuck : Searched → State Shared Thread → Type 0) (s : Searched) where
  abbrev b : Called
  b = called s

  abbrev Gone : StepSystem S (State Shared Thread) Ending
  Gone = gone_by stands follows stuck s

  abbrev rests : Searched → S → State Shared Thread → Type 0
  rests r c w = (turns : ℕ → ℕ) × stands r c w turns

  -- what can be met can be reached
  states_are : (keys : List S) (states : ℕ) → AreCounted Gone eq keys states → AreStatesBy eq rests s keys states
  states_are keys states counted = record {
    len = counted.len;
    distinct = counted.distinct;
    reached = λ c among. (let met = counted.sound c among in (
      met.comes.end,
      subst (λ (w : State Shared Thread). Reaches (StepsBy (system_of b)) w met.comes.end) met.begun met.comes.path,
      met.comes.is,
    ));
  }

  pub counted_by : (r : Requested) (states : ℕ) → IsOfCall r s → IsCount Gone eq states → CountsStatesBy eq rests r states
  counted_by r states call count = (s, call, count.0, states_are count.0 states count.1)

  to_end : (w : State Shared Thread) → CanEndSomehow Gone w → CanStillEnd b s.dump w
  to_end w can = record { ending = can.0; end = can.1.end; path = can.1.path; ended = can.1.is }

  from_end : (w : State Shared Thread) → CanStillEnd b s.dump w → CanEndSomehow Gone w
  from_end w can = (can.ending, record { end = can.end; path = can.path; is = can.ended })

  runs_by : (f : FairRuns) → SaysOf Gone f → SaysOfRuns b f
  runs_by AllEnd none = none (first_state b) refl
  runs_by (GoOn c) runs = subst (λ w. FairRun (turning (system_of b)) w) runs.1 runs.2
  runs_by Unknown said = tt

  module _ (r : Requested) (call : IsOfCall r s) (states : ℕ) (l : Liveness) (live : IsLive Gone eq states l) where
    never : (p : ℕ) (c : S) → slice_get live.keys p ≡ Some c → Contains l.endless.items p
        → (w : State Shared Thread) → rests s c w → CanStillEnd b s.dump w → ⊥
    never p c at among w rests can = elim (live.endless.each p c at) [
      | inl is ↦ is.1 w rests (from_end w can)
      | inr is ↦ is.0 among
    ]

    still : (p : ℕ) (c : S) → slice_get live.keys p ≡ Some c → (Contains l.endless.items p → ⊥)
        → (w : State Shared Thread) → rests s c w → CanStillEnd b s.dump w
    still p c at apart w rests = elim (live.endless.each p c at) [
      | inl is ↦ absurd (apart is.0)
      | inr is ↦ to_end w (is.1 w rests)
    ]

    all : (w : State Shared Thread) → CanReach b w → (c : S) × Contains live.keys c × rests s c w
    all w reach = let c = live.all (first_state b) w refl reach in (c.state, c.among, c.is)

    every : l.endless.items ≡ [] → (w : State Shared Thread) → CanReach b w → CanStillEnd b s.dump w
    every none w reach =
        let c = all w reach in
        let at : slice_get live.keys c.1.0 ≡ Some c.0 = slice_get-get_or live.keys c.1.0 c.0 c.1.1 ∙ ap Some c.1.2 in
        still c.1.0 c.0 at (λ among. (let empty = subst (λ v. Contains v c.1.0) none among in omega (arith, empty.1))) w c.2

    says : SaysBy eq rests r s.dump states l
    says = record {
      searched = s;
      call = call;
      keys = live.keys;
      are = states_are live.keys states live.counted;
      all = all;
      order = live.endless.order;
      within = λ p among. subst (λ (n : ℕ). p < n) live.counted.len (live.endless.within p among);
      never = never;
      still = still;
      every = every;
      fair_runs = runs_by l.fair_runs live.fair_runs;
    }

  pub says_by : (r : Requested) → IsOfCall r s → (dump : ℕ) → s.dump ≡ dump → (states : ℕ) (verdict : Verdict) (o : Option Liveness)
      → IsLiveWhereAll Gone eq states verdict o → SaysWhereAllBy eq rests r dump states verdict o
  says_by r call dump looked states verdict None unsaid = unsaid
  says_by r call dump looked states verdict (Some l) said = (said.0, subst (λ (d : ℕ). SaysBy eq rests r d states l) looked (says r call states l said.1))
