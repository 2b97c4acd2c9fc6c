-- What a search that met all states says of whether they come to an end.
use Rattle.std.specs.Prelude.{◌≡◌, ◌<◌, ◌⊎◌, ◌↔◌, ℕ, Bool, Some, Option, None, List, length, Contains}
use Rattle.std.specs.List.{slice_get, IsDistinct}
use Rattle.std.specs.List.Sorted.{IsStrictlyIncreasing}
use Rattle.std.specs.Option.{MatchOption, IfSome}
use Rattle.search_graph.specs.Graph.{CanEnd as PathEnds, CannotEnd}
use Rattle.search_graph.specs.Runs.{EveryFairRunEnds}
use Rattle.search_graph.specs.Worlds.{FairRun}
use Rattle.search_graph.specs.declared.graph.Graph.{Graph}
use Rattle.search_fairness.specs.Judged.{IsCycle}
use Rattle.search_fairness.specs.declared.judged.Cycle as cycles
use Rattle.search_reach.specs.Search.{StepSystem, StandsFor, CanEnd, IsSound, IsAll}
use Rattle.search_reach.specs.Moved.{IsPathTo, AreChoicesOf}
use Rattle.search_reach.specs.Ways.{AreNumbered, IsWay, AreWays, GoRound}
use Rattle.search_reach.specs.declared.follows.Wish.{Wish}
use Rattle.search_reach.specs.declared.follows.Wish.TheVariants as wishes
use Rattle.search_reach.specs.declared.search.Verdict.{Verdict}
use Rattle.search_reach.specs.declared.search.Verdict.TheVariants as verdicts
use Rattle.search_reach.specs.declared.ending.Ended as found
use Rattle.search_reach.specs.declared.liveness.FairCycle as rounds
use Rattle.search_reach.specs.declared.liveness.FairRuns.{FairRuns}
use Rattle.search_reach.specs.declared.liveness.FairRuns.TheVariants.{AllEnd, GoOn, Unknown}
use Rattle.search_reach.specs.declared.liveness.Liveness.{Liveness}

module _ {S W E : Type 0} (k : StepSystem S W E) where
  -- So many states, of which no two are equal, and each can be met.
  pub record AreCounted (eq : S → S → Bool) (ks : List S) (states : ℕ) : Type 0 where
    pub len : length ks ≡ states
    pub distinct : IsDistinct eq ks
    pub sound : IsSound k ks

  abbrev pub IsCount : (S → S → Bool) → ℕ → Type 0
  IsCount eq states = (ks : List S) × AreCounted eq ks states

  -- An ending can be reached from there.
  abbrev pub CanEndSomehow : W → Type 0
  CanEndSomehow w = (e : E) × CanEnd k w e

  -- From nothing that the state stands for, and from all of it.
  abbrev pub NeverEnds : S → Type 0
  NeverEnds s = (w : W) → StandsFor k s w → CanEndSomehow w → ⊥

  abbrev pub StillEnds : S → Type 0
  StillEnds s = (w : W) → StandsFor k s w → CanEndSomehow w

  -- These are the places of the states from which no ending can be reached, ascending.
  pub record AreEndless (ks : List S) (places : List ℕ) : Type 0 where
    pub order : IsStrictlyIncreasing places
    pub within : (p : ℕ) → Contains places p → p < length ks
    pub each : (p : ℕ) (s : S) → slice_get ks p ≡ Some s
        → (Contains places p × NeverEnds s) ⊎ ((Contains places p → ⊥) × StillEnds s)

  -- What is said of the fair runs from where it begins: that none goes on for ever, that one does, or nothing.
  abbrev pub SaysOf : FairRuns → Type 0
  SaysOf AllEnd = (w : W) → k.begins w → FairRun k.worlds w → ⊥
  SaysOf (GoOn c) = (w : W) × k.begins w × FairRun k.worlds w
  SaysOf Unknown = Unit {0}

  -- A way leads to the first state of these places, if there is one.
  abbrev pub LeadsToFirst : (S → S → Bool) → List S → List ℕ → List ℕ → Type 0
  LeadsToFirst eq ks places choices =
      (p : ℕ) (s : S) → slice_get places 0 ≡ Some p → slice_get ks p ≡ Some s → IsWay k eq choices s

  -- All of so many states, and what is said of them.
  pub record IsLive (eq : S → S → Bool) (states : ℕ) (l : Liveness) : Type 0 where
    pub keys : List S
    pub counted : AreCounted eq keys states
    pub all : IsAll k keys
    pub endless : AreEndless keys l.endless.items
    pub path : LeadsToFirst eq keys l.endless.items l.path.items
    pub fair_runs : SaysOf l.fair_runs
    pub round : GoRound k eq l.fair_runs

  -- The path leads to a state from which no ending can be reached, if there is one.
  abbrev pub LeadsToEndless : (S → S → Bool) → Liveness → Type 0
  LeadsToEndless eq l = (p : ℕ) → slice_get l.endless.items 0 ≡ Some p → (s : S) × NeverEnds s × IsWay k eq l.path.items s

  -- The choices of a search lead where they are said to lead: those beside each ending to a state that has ended so; and
  -- where more is said, others to a state from which no ending can be reached, and round.
  pub record HasWays (eq : S → S → Bool) (ended : found.Ended E) : Type 0 where
    pub endings : AreNumbered ended.verdict ended.states → AreWays k eq ended.paths.items ended.endings.keys
    pub endless : IfSome ended.liveness (LeadsToEndless eq)
    pub round : IfSome ended.liveness (λ l. GoRound k eq l.fair_runs)

  -- It is said where all were met, and there alone.
  abbrev pub IsLiveWhereAll : (S → S → Bool) → ℕ → Verdict → Option Liveness → Type 0
  IsLiveWhereAll eq states verdict o =
      MatchOption o (verdict ≡ verdicts.All → ⊥) (λ l. (verdict ≡ verdicts.All) × IsLive eq states l)

-- The same of a graph.
module _ (graph : Graph) where
  -- The threads and the number of the states are those of a cycle of the graph; the path leads to where it starts, and
  -- the walk has the choices of its moves.
  pub record IsRoundOf (c : rounds.FairCycle) : Type 0 where
    pub cycle : cycles.Cycle
    pub is : IsCycle graph.moves.items cycle
    pub threads : c.threads.items ≡ cycle.threads.items
    pub states : c.states ≡ length cycle.states.items
    pub path : IsPathTo graph.moves.items graph.states c.path.items cycle.start
    pub walk : AreChoicesOf graph.moves.items cycle.walk.items c.walk.items

  abbrev pub SaysOfGraph : FairRuns → Type 0
  SaysOfGraph AllEnd = EveryFairRunEnds graph.moves.items
  SaysOfGraph (GoOn c) = IsRoundOf c
  SaysOfGraph Unknown = Unit {0}

-- Some of its states are marked as ended.
module _ (graph : Graph) (ended : List Bool) where
  pub record IsGraphLive (l : Liveness) : Type 0 where
    pub order : IsStrictlyIncreasing l.endless.items
    pub exact : (s : ℕ) → Contains l.endless.items s ↔ CannotEnd graph.moves.items ended graph.states s
    pub others : (s : ℕ) → s < graph.states → Contains l.endless.items s ⊎ PathEnds graph.moves.items ended s
    pub path : (p : ℕ) → slice_get l.endless.items 0 ≡ Some p → IsPathTo graph.moves.items graph.states l.path.items p
    pub fair_runs : SaysOfGraph graph l.fair_runs

  -- How it is judged, by the verdict and the last wish before: where all were met, and nobody wishes the end.
  pub record IsJudged (before : Verdict) (old : Wish) (after : Verdict) (new : Wish) (o : Option Liveness) : Type 0 where
    pub said : IfSome o (λ l. (before ≡ verdicts.All) × (after ≡ verdicts.All) × IsGraphLive l)
    pub unsaid : o ≡ None → after ≡ verdicts.All → ⊥
    pub verdict : (after ≡ before) ⊎ ((after ≡ verdicts.Told) × (new ≡ wishes.End))
    pub unasked : (before ≡ verdicts.All → ⊥) → (new ≡ old) × (after ≡ before)
