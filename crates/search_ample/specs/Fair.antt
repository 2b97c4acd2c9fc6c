-- Fair runs without end where only some threads go on.
use Rattle.std.specs.Prelude.{◌≡◌, ◌≤◌, ◌⊎◌, ℕ, true, false, Some}
use Rattle.search_graph.specs.Graph.{Moves}
use Rattle.search_graph.specs.Runs.{Run, EveryFairRunEnds}
use Rattle.search_graph.specs.Worlds.{Worlds, Persists, FairRun}
use Rattle.search_ample.specs.Systems.{System, CanGo}
use Rattle.search_ample.specs.Explored.{Explored, Meaning}

-- Its states, between which threads make steps.
abbrev pub worlds_of : {S A : Type 0} → System S A → Worlds S
worlds_of k = record { steps = k.steps; can = CanGo k }

-- Only the moves of threads that go on were explored.
abbrev pub OnlyTheseGo : Explored → Type 0
OnlyTheseGo e = (i t j : ℕ) → Moves e.moves i t j → e.goes i t ≡ true

-- Where a thread that can go on can until it makes a step, and each fair run of what was explored ends, no fair run
-- goes on from there for ever.
abbrev pub NoFairRunGoesOn : {S A : Type 0} → System S A → Meaning S A → Explored → Type 0
NoFairRunGoesOn k m e = Persists (worlds_of k) k.among → OnlyTheseGo e → EveryFairRunEnds e.moves
    → (i : ℕ) (s : _) → m.stands i s → FairRun (worlds_of k) s → ⊥

-- A run of what was explored that never idles: each thread that can go on at a moment makes a move then or later, or
-- can't go on at some later moment.
pub record IsFairAsSeen (e : Explored) (run : Run e.moves) : Type 0 where
  pub busy : (n : ℕ) → (t : ℕ) × (run.by n ≡ Some t)
  pub turns : (n t : ℕ) → e.can (run.at n) t ≡ true
      → (later : ℕ) × (n ≤ later) × ((run.by later ≡ Some t) ⊎ (e.can (run.at later) t ≡ false))

-- It is a fair run without end of what its first state stands for.
abbrev pub FairRunsAreMade : {S A : Type 0} → System S A → Meaning S A → Explored → Type 0
FairRunsAreMade k m e = Persists (worlds_of k) k.among → (run : Run e.moves) → IsFairAsSeen e run
    → (s : _) → m.stands (run.at 0) s → FairRun (worlds_of k) s
