-- Marks of the states from which one that has ended can be reached.
use Rattle.std.specs.Prelude.{◌<◌, ◌+◌, ◌⊎◌, ℕ, Bool, true, false, List, [], ◌∷◌, All, Contains}
use Rattle.search_graph.specs.declared.graph.Move.{Move}
use Rattle.search_graph.specs.Graph.{CanEnd, IsMarked}

-- How many are not marked.
abbrev pub unmarked_in : List Bool → ℕ
unmarked_in [] = 0
unmarked_in (true ∷ marks) = unmarked_in marks
unmarked_in (false ∷ marks) = 1 + unmarked_in marks

-- The states that have ended are marked, and from each marked state one of them can be reached.
pub record MarkCanEnd (moves : List Move) (ended marks : List Bool) : Type 0 where
  pub sound : (s : ℕ) → IsMarked marks s → CanEnd moves ended s
  pub all : (s : ℕ) → IsMarked ended s → IsMarked marks s

-- Where a move leads to a marked state, it is from one.
abbrev pub IsClosed : List Move → List Bool → Type 0
IsClosed moves marks = All (λ m. IsMarked marks m.next → IsMarked marks m.from) moves

-- These are the states below n that are not marked.
pub record AreUnmarked (marks : List Bool) (n : ℕ) (found : List ℕ) : Type 0 where
  pub sound : (s : ℕ) → Contains found s → (s < n) × (IsMarked marks s → ⊥)
  pub all : (s : ℕ) → s < n → Contains found s ⊎ IsMarked marks s
