-- Which threads leave a component: by groups of moves and a numbering of components that nobody has to trust.
use Rattle.std.specs.Prelude.{◌≡◌, ◌+◌, ◌⊎◌, ℕ, List, All, Some, length, slice_index, slice_index_or, slice_range}
use Rattle.std.specs.List.{Any, slice_get}
use Rattle.search_graph.specs.declared.graph.Move.{Move}
use Rattle.search_graph.specs.declared.grouped.Grouped.{Grouped}
use Rattle.search_graph.specs.Groups.{group_of}
use Rattle.search_fairness.specs.declared.components.Components.{Components}

-- Where the component's states begin, and which these are: all up to where the next component's begin.
abbrev pub begin_of_members : Components → ℕ → ℕ
begin_of_members found c = slice_index_or found.starts.items c (length found.members.items)

abbrev pub members_in : Components → ℕ → List ℕ
members_in found c = slice_range found.members.items (begin_of_members found c) (begin_of_members found (c + 1))

-- The move of this index is of the thread; and leads to the component.
abbrev pub IsOf : List Move → ℕ → ℕ → Type 0
IsOf moves t k = (m : Move) × slice_get moves k ≡ Some m × m.thread ≡ t

abbrev pub IsInside : List Move → List ℕ → ℕ → ℕ → ℕ → Type 0
IsInside moves of c t k = (m : Move) × slice_get moves k ≡ Some m × m.thread ≡ t × slice_index of m.next ≡ c

module _ (moves : List Move) (out : Grouped) where
  -- The thread has a move at the state; one that leads to the component.
  abbrev pub HasMove : ℕ → ℕ → Type 0
  HasMove t s = Any (IsOf moves t) (group_of out s)

  abbrev pub HasInside : List ℕ → ℕ → ℕ → ℕ → Type 0
  HasInside of c t s = Any (IsInside moves of c t) (group_of out s)

  -- The thread has a move at the state, and none there that leads to the component; so at each state of the component.
  pub record LeavesAt (of : List ℕ) (c t s : ℕ) : Type 0 where
    pub can : HasMove t s
    pub none : HasInside of c t s → ⊥

  pub record Leaves (found : Components) (c t : ℕ) : Type 0 where
    pub at : All (LeavesAt found.of.items c t) (members_in found c)

  -- The thread of the move of this index doesn't leave it.
  abbrev pub HasNoLeaver : Components → ℕ → ℕ → Type 0
  HasNoLeaver found c k = (m : Move) → slice_get moves k ≡ Some m → Leaves found c m.thread → ⊥

-- No move is from the state; from a state of the component.
abbrev pub IsStillAt : Grouped → ℕ → Type 0
IsStillAt out s = length (group_of out s) ≡ 0

abbrev pub IsStill : Grouped → Components → ℕ → Type 0
IsStill out found c = All (IsStillAt out) (members_in found c)

-- The thread leaves the component, or no move is from it; no thread leaves it.
abbrev pub IsMover : List Move → Grouped → Components → ℕ → ℕ → Type 0
IsMover moves out found c t = Leaves moves out found c t ⊎ IsStill out found c

abbrev pub IsNeverLeft : List Move → Grouped → Components → ℕ → Type 0
IsNeverLeft moves out found c = (t : ℕ) → Leaves moves out found c t → ⊥
