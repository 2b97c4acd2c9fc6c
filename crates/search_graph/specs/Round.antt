-- Walks that come back to where they began.
use Rattle.std.specs.Prelude.{◌≡◌, ◌<◌, ◌⊎◌, ℕ, zero, suc, List, All, length, map}
use Rattle.std.specs.List.{Any}
use Rattle.search_graph.specs.declared.graph.Move.{Move}
use Rattle.search_graph.specs.Graph.{CanMove, move_at}

-- The moves of these indices.
abbrev pub moves_at : List Move → List ℕ → List Move
moves_at moves indices = map (move_at moves) indices

-- Where the walk stands before its move of this index.
abbrev pub came : ℕ → List Move → ℕ → ℕ
came start walk zero = start
came start walk (suc k) = (move_at walk k).next

-- The moves lead on from one another, from the state back to it, and there is one.
pub record IsRound (start : ℕ) (walk : List Move) : Type 0 where
  pub some : 0 < length walk
  pub joined : (k : ℕ) → k < length walk → (move_at walk k).from ≡ came start walk k
  pub closed : came start walk (length walk) ≡ start

-- Some move of the walk is of the thread, or is from a state at which the thread has none.
abbrev pub GetsTurnIn : List Move → List Move → ℕ → Type 0
GetsTurnIn moves walk t = Any (λ m. (m.thread ≡ t) ⊎ (CanMove moves m.from t → ⊥)) walk

-- The moves of these indices lead from the state round and back to it, and each thread that has a move at the state
-- gets a turn on the way.
pub record IsFairRound (moves : List Move) (start : ℕ) (indices : List ℕ) : Type 0 where
  pub within : All (λ k. k < length moves) indices
  pub round : IsRound start (moves_at moves indices)
  pub turns : (t : ℕ) → CanMove moves start t → GetsTurnIn moves (moves_at moves indices) t
