-- What plain data say of what was explored, and what of them is checked.
use Rattle.std.specs.Prelude.{◌≡◌, ◌<◌, ℕ, Bool, true, false, List, [], All, length, slice_index_or, Some}
use Rattle.std.specs.List.{slice_get}
use Rattle.search_graph.specs.declared.graph.Move.{Move}
use Rattle.search_graph.specs.Graph.{IsMarked}
use Rattle.search_ample.specs.declared.certificate.Standing.{Standing}
use Rattle.search_ample.specs.declared.certificate.Certificate.{Certificate}
use Rattle.search_ample.specs.Explored.{Explored}

-- The row of this index, or an empty one.
abbrev pub row_at : {X : Type 0} → List (List X) → ℕ → List X
row_at rows k = slice_index_or rows k []

-- What the other row marks this one does; or nothing.
abbrev pub Includes : List Bool → List Bool → Type 0
Includes row other = (p : ℕ) → IsMarked other p → IsMarked row p

abbrev pub AreDisjoint : List Bool → List Bool → Type 0
AreDisjoint row other = (p : ℕ) → IsMarked row p → IsMarked other p → ⊥

-- The move of this index is the thread's, from the state.
pub record IsOwnMove (moves : List Move) (i n k : ℕ) : Type 0 where
  pub move : Move
  pub is : slice_get moves k ≡ Some move
  pub from : move.from ≡ i
  pub thread : move.thread ≡ n

module _ (c : Certificate) where
  -- A thread at a state. Where there is none, one that doesn't go on.
  abbrev pub standing_at : ℕ → ℕ → Standing
  standing_at i n = slice_index_or (row_at c.states.items i) n (record { part = 0; goes = false; by = 0; rank = 0 })

  abbrev pub part_at : ℕ → ℕ → ℕ
  part_at i n = (standing_at i n).part

  -- What is so of each part.
  abbrev pub can_of : ℕ → Bool
  can_of part = slice_index_or c.parts.can.items part false

  abbrev pub wants_of : ℕ → List ℕ
  wants_of part = row_at c.parts.wants.items part

  abbrev pub heeds_of : ℕ → List ℕ
  heeds_of part = row_at c.parts.heeds.items part

  abbrev pub may_of : ℕ → List Bool
  may_of part = row_at c.parts.may.items part

  -- What was explored, and the guess.
  abbrev pub explored_of : List Move → Explored
  explored_of moves = record {
    states = length c.states.items;
    threads = c.threads;
    moves = moves;
    can = λ i n. can_of (part_at i n);
    wants = λ i n. wants_of (part_at i n);
    heeds = λ i n. heeds_of (part_at i n);
    conflicts = λ p q. slice_index_or (row_at c.conflicts.items p) q false;
    goes = λ i n. (standing_at i n).goes;
    may = λ i n p. slice_index_or (may_of (part_at i n)) p false;
    rank = λ i n. (standing_at i n).rank;
  }

  -- Along the move each thread's footprint has what it has behind it.
  abbrev pub KeepsFootprints : Move → Type 0
  KeepsFootprints m = (n : ℕ) → n < c.threads → Includes (may_of (part_at m.from n)) (may_of (part_at m.next n))

  -- What a thread that is the one part wants or heeds conflicts with nothing in the footprint of one that is the other.
  abbrev pub FitBeside : ℕ → ℕ → Type 0
  FitBeside other p = AreDisjoint (row_at c.conflicts.items p) (may_of other)

  pub record ArePartsApart (one other : ℕ) : Type 0 where
    pub wants : All (FitBeside other) (wants_of one)
    pub heeds : All (FitBeside other) (heeds_of one)

  -- It is so of the thread and each that doesn't go on at the state.
  abbrev pub IsApartAt : ℕ → ℕ → Type 0
  IsApartAt i n = (u : ℕ) → u < c.threads → (standing_at i u).goes ≡ false → ArePartsApart (part_at i n) (part_at i u)

  module _ (moves : List Move) where
    -- The move of this index is from the state, of a thread that goes on there, and leads to a smaller rank of this
    -- one.
    pub record IsNearing (i n k : ℕ) : Type 0 where
      pub move : Move
      pub is : slice_get moves k ≡ Some move
      pub from : move.from ≡ i
      pub few : move.thread < c.threads
      pub goes : (standing_at i move.thread).goes ≡ true
      pub falls : (standing_at move.next n).rank < (standing_at i n).rank

    -- A thread that goes on at the state is apart from those that don't, and followed; and one that doesn't comes
    -- nearer.
    pub record IsShownAt (i n : ℕ) : Type 0 where
      pub apart : (standing_at i n).goes ≡ true → IsApartAt i n
      pub follows : (standing_at i n).goes ≡ true → can_of (part_at i n) ≡ true
          → IsOwnMove moves i n (standing_at i n).by
      pub nears : (standing_at i n).goes ≡ false → can_of (part_at i n) ≡ true → IsNearing i n (standing_at i n).by

    abbrev pub AreShownAt : ℕ → Type 0
    AreShownAt i = (n : ℕ) → n < c.threads → IsShownAt i n

    -- The data show it: each part's footprint has what it wants, each move keeps footprints, and so at each state.
    pub record IsShown : Type 0 where
      pub wanted : (part : ℕ) → part < length c.parts.wants.items → All (IsMarked (may_of part)) (wants_of part)
      pub kept : All KeepsFootprints moves
      pub at : (i : ℕ) → i < length c.states.items → AreShownAt i
