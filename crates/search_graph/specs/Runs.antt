-- Runs without end of the threads of a graph, and which of them are fair.
use Rattle.std.specs.Prelude.{◌≡◌, ◌≤◌, ◌⊎◌, ◌%◌, ℕ, suc, List, length, Option, Some, None}
use Rattle.search_graph.specs.declared.graph.Move.{Move}
use Rattle.search_graph.specs.Graph.{Moves, CanMove, IsStill, move_at}

module _ (moves : List Move) where
  -- What happens between two moments: a thread makes a move, or nothing is done.
  abbrev pub Turns : ℕ → Option ℕ → ℕ → Type 0
  Turns s (Some t) z = Moves moves s t z
  Turns s None z = z ≡ s

  -- A run: the state at each moment, and the thread that moves then, or none. It may idle at any moment, and where no
  -- thread has a move it has to.
  pub record Run : Type 0 where
    pub at : ℕ → ℕ
    pub by : ℕ → Option ℕ
    pub turns : (k : ℕ) → Turns (at k) (by k) (at (suc k))

  -- At this moment or later the thread moves, or has no move.
  pub record GetsTurn (run : Run) (k t : ℕ) : Type 0 where
    pub later : ℕ
    pub since : k ≤ later
    pub is : (run.by later ≡ Some t) ⊎ (CanMove moves (run.at later) t → ⊥)

  -- No thread has a move at each moment from some moment on and makes none of them (weak fairness).
  abbrev pub IsFair : Run → Type 0
  IsFair run = (k t : ℕ) → CanMove moves (run.at k) t → GetsTurn run k t

  -- The run comes to where no thread has a move.
  pub record Ends (run : Run) : Type 0 where
    pub moment : ℕ
    pub is : IsStill moves (run.at moment)

  -- Each fair run ends, whatever state it starts in.
  abbrev pub EveryFairRunEnds : Type 0
  EveryFairRunEnds = (run : Run) → IsFair run → Ends run

  -- At this moment the run makes the move.
  pub record Makes (run : Run) (k : ℕ) (m : Move) : Type 0 where
    pub from : run.at k ≡ m.from
    pub thread : run.by k ≡ Some m.thread

  -- A fair run starts in this state, and makes the moves of the walk one after the other, again and again.
  pub record HasFairCycle (start : ℕ) (walk : List Move) : Type 0 where
    pub run : Run
    pub starts : run.at 0 ≡ start
    pub fair : IsFair run
    pub makes : (k : ℕ) → Makes run k (move_at walk (k % length walk))
