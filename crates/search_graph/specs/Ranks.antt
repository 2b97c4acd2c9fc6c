-- Ranks of states, and for each rank a thread, by which every fair run ends.
use Rattle.std.specs.Prelude.{◌≡◌, ◌<◌, ◌≤◌, ℕ, List, All, length, slice_index}
use Rattle.search_graph.specs.Graph.{CanMove}
use Rattle.search_graph.specs.declared.graph.Move.{Move}

-- The thread that the state's rank names.
abbrev pub mover_at : List ℕ → List ℕ → ℕ → ℕ
mover_at ranks movers s = slice_index movers (slice_index ranks s)

-- The move leads to no greater rank, and to a smaller one if it is of the thread that the rank names.
pub record Falls (ranks movers : List ℕ) (m : Move) : Type 0 where
  pub named : slice_index ranks m.from < length movers
  pub down : slice_index ranks m.next ≤ slice_index ranks m.from
  pub falls : m.thread ≡ mover_at ranks movers m.from → slice_index ranks m.next < slice_index ranks m.from

-- Each state has a rank; each move falls so; and wherever a thread has a move, the one that the rank names has one.
pub record AreRanks (moves : List Move) (states : ℕ) (ranks movers : List ℕ) : Type 0 where
  pub len : length ranks ≡ states
  pub falls : All (Falls ranks movers) moves
  pub can : All (λ m. CanMove moves m.from (mover_at ranks movers m.from)) moves
