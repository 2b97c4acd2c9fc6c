-- States by their numbers, and the moves of threads from state to state.
use Rattle.std.specs.Prelude.{◌≡◌, ◌<◌, ℕ, Bool, true, false, List, Contains, slice_index_or}
use Rattle.search_graph.specs.Paths.{Reaches}
use Rattle.search_graph.specs.declared.graph.Move.{Move}

-- The states are the numbers below this.
pub record IsWithin (states : ℕ) (m : Move) : Type 0 where
  pub from : m.from < states
  pub next : m.next < states

-- The state is marked.
abbrev pub IsMarked : List Bool → ℕ → Type 0
IsMarked marks s = slice_index_or marks s false ≡ true

-- The move of this index.
abbrev pub move_at : List Move → ℕ → Move
move_at moves k = slice_index_or moves k (record { from = 0; thread = 0; next = 0 })

module _ (moves : List Move) where
  -- The thread has this move.
  abbrev pub Moves : ℕ → ℕ → ℕ → Type 0
  Moves s t z = Contains moves (record { from = s; thread = t; next = z })

  -- The thread has a move at the state.
  pub record CanMove (s t : ℕ) : Type 0 where
    pub next : ℕ
    pub is : Moves s t next

  -- Some thread moves from the one to the other.
  pub record Steps (s z : ℕ) : Type 0 where
    pub thread : ℕ
    pub is : Moves s thread z

  -- No thread has a move there: it has ended, or stopped for good.
  abbrev pub IsStill : ℕ → Type 0
  IsStill s = (t : ℕ) → CanMove s t → ⊥

  -- A path of moves leads from the state to one that is marked as ended.
  pub record CanEnd (ended : List Bool) (s : ℕ) : Type 0 where
    pub end : ℕ
    pub path : Reaches Steps s end
    pub is : IsMarked ended end

  -- It is a state, and no path of moves leads from it to one that is marked as ended.
  pub record CannotEnd (ended : List Bool) (states s : ℕ) : Type 0 where
    pub state : s < states
    pub never : CanEnd ended s → ⊥
