-- Where a search stands: the states that it met, and the moves that it noted.
use Rattle.std.specs.Prelude.{◌≡◌, ◌==◌, ◌<◌, ℕ, Bool, true, Some, List, ◌++◌, length, filter, Contains}
use Rattle.std.specs.List.{slice_get, AllZip}
use Rattle.search_graph.specs.declared.graph.Move.{Move}
use Rattle.search_reach.specs.Search.{StepSystem, Covers, AreNext, IsSound}
use Rattle.search_reach.specs.declared.explores.NextState.{NextState}
use Rattle.search_reach.specs.declared.search.Verdict.{Verdict}
use Rattle.search_reach.specs.declared.search.Verdict.TheVariants as verdicts

-- ls are ks and then some of these states.
pub record Gains {S : Type 0} (ks : List S) (xs : List (NextState S)) (ls : List S) : Type 0 where
  pub more : List S
  pub is : ls ≡ ks ++ more
  pub among : (s : S) → Contains more s → (x : NextState S) × Contains xs x × (x.state ≡ s)

-- The moves from the state of this index, in their order.
abbrev pub moves_from : ℕ → List Move → List Move
moves_from at moves = filter (λ m. m.from == at) moves

module _ {S : Type 0} (eq : S → S → Bool) (ks : List S) where
  -- The state of this index equals it.
  pub record HasAt (index : ℕ) (s : S) : Type 0 where
    pub key : S
    pub at : slice_get ks index ≡ Some key
    pub is : eq s key ≡ true

  -- The move is that of a thread to its next state.
  pub record IsNoted (at : ℕ) (x : NextState S) (m : Move) : Type 0 where
    pub from : m.from ≡ at
    pub thread : m.thread ≡ x.thread
    pub next : HasAt m.next x.state

  -- They are those to each of these, in their order.
  abbrev pub AreNoted : ℕ → List (NextState S) → List Move → Type 0
  AreNoted at xs ms = AllZip (IsNoted at) xs ms

-- These moves were noted behind the others.
pub record Notes {S : Type 0} (eq : S → S → Bool) (ks : List S) (at : ℕ) (xs : List (NextState S))
    (before after : List Move) : Type 0 where
  pub new : List Move
  pub is : after ≡ before ++ new
  pub are : AreNoted eq ks at xs new

module _ {S W E : Type 0} (k : StepSystem S W E) (eq : S → S → Bool) (ks : List S) (moves : List Move) where
  -- The moves from the state of this index are those to its next states.
  pub record IsGoneOn (index : ℕ) (s : S) : Type 0 where
    pub next : List (NextState S)
    pub are : AreNext k s next
    pub noted : AreNoted eq ks index next (moves_from index moves)

  -- Where a search stands that has met the states ks, has noted these moves, and has gone on from the states of some
  -- places.
  pub record Explored (gone : ℕ → Type 0) : Type 0 where
    pub begun : (w : W) → k.begins w → Covers k ks w
    pub gone_on : (j : ℕ) (s : S) → gone j → slice_get ks j ≡ Some s → IsGoneOn j s
    pub from : (m : Move) → Contains moves m → gone m.from × (m.from < length ks) × (m.next < length ks)
    pub sound : IsSound k ks

  -- It has gone on from the first i states.
  abbrev pub ExploredTo : ℕ → Type 0
  ExploredTo i = Explored (λ (j : ℕ). j < i)

  -- Where the verdict says that it met all, it has gone on from all.
  abbrev pub IsWhole : Verdict → Type 0
  IsWhole verdict = verdict ≡ verdicts.All → ExploredTo (length ks)
