-- Ways: choices, each of which names one of the next states of a state.
use Rattle.std.specs.Prelude.{◌≡◌, ◌<◌, ◌^◌, ◌⊎◌, ℕ, Bool, true, Some, List, [], ◌∷◌, length}
use Rattle.std.specs.Global.{Vec}
use Rattle.std.specs.List.{slice_get, AllZip}
use Rattle.search_reach.specs.Search.{StepSystem, AreNext, IsFirst, IsEnding}
use Rattle.search_reach.specs.declared.explores.NextState.{NextState}
use Rattle.search_reach.specs.declared.search.Verdict.{Verdict}
use Rattle.search_reach.specs.declared.search.Verdict.TheVariants as verdicts
use Rattle.search_reach.specs.declared.liveness.FairCycle.{FairCycle}
use Rattle.search_reach.specs.declared.liveness.FairRuns.{FairRuns}
use Rattle.search_reach.specs.declared.liveness.FairRuns.TheVariants.{AllEnd, GoOn, Unknown}

-- The search met all states, or so few that a number of 32 bits tells each from the others.
abbrev pub AreNumbered : Verdict → ℕ → Type 0
AreNumbered verdict states = (verdict ≡ verdicts.All) ⊎ (states < 2 ^ 32)

module _ {S W E : Type 0} (k : StepSystem S W E) (eq : S → S → Bool) where
  -- The choice names one of the next states of s, which equals t.
  pub record Chooses (s : S) (choice : ℕ) (t : S) : Type 0 where
    pub next : List (NextState S)
    pub are : AreNext k s next
    pub chosen : NextState S
    pub at : slice_get next choice ≡ Some chosen
    pub is : eq chosen.state t ≡ true

  -- The choices lead from s to t, one after the other.
  abbrev pub Leads : S → List ℕ → S → Type 0
  Leads s [] t = s ≡ t
  Leads s (choice ∷ choices) t = (v : S) × Chooses s choice v × Leads v choices t

  -- They lead there from a first state.
  pub record IsWay (choices : List ℕ) (t : S) : Type 0 where
    pub first : S
    pub begins : IsFirst k first
    pub leads : Leads first choices t

  -- They lead so to a state that has ended so.
  pub record IsWayTo (choices : List ℕ) (e : E) : Type 0 where
    pub last : S
    pub way : IsWay choices last
    pub ended : IsEnding k last (Some e)

  -- For each ending there is a way.
  abbrev pub AreWays : List (Vec ℕ) → List E → Type 0
  AreWays paths es = AllZip (λ path e. IsWayTo path.items e) paths es

  -- A way leads to where it begins to go round, and the walk from there once round and back there.
  pub record GoesRound (c : FairCycle) : Type 0 where
    pub start : S
    pub way : IsWay c.path.items start
    pub some : 0 < length c.walk.items
    pub round : Leads start c.walk.items start

  -- So it is where a run goes on for ever.
  abbrev pub GoRound : FairRuns → Type 0
  GoRound AllEnd = Unit {0}
  GoRound (GoOn c) = GoesRound c
  GoRound Unknown = Unit {0}
