-- States in a table, which has some states: what comes of going on from one, and where a search stands.
use Rattle.std.specs.Prelude.{◌≡◌, ◌<◌, ◌^◌, ℕ, Bool, true, Option, Some, List, [], ◌∷◌, length}
use Rattle.std.proofs.Common.{◌∙◌}
use Rattle.std.specs.Cmp.{IsEquivalence}
use Rattle.std.specs.List.{slice_get, AllZip}
use Rattle.search_graph.specs.declared.graph.Move.{Move}
use Rattle.search_reach.specs.declared.explores.NextState.{NextState}
use Rattle.search_reach.specs.declared.follows.Wish.{Wish}
use Rattle.search_reach.specs.declared.search.Reached.{Reached}
use Rattle.search_reach.specs.declared.search.Verdict.{Verdict}
use Rattle.search_reach.specs.Search.{StepSystem, IsAll, IsSound, CanGetStuck, IsFirst, IsMet, AreNext, IsMarkedSo, AllEnds, AreEnds, AreEndsOf}
use Rattle.search_reach.specs.Explored.{Gains, Notes, ExploredTo, IsWhole}
use Rattle.search_reach.specs.Found.{IsFound}
use Rattle.search_reach.specs.Sought.{ArePassed, SeeksAmong}
use Rattle.search_reach.specs.Levels.{HasGoneThrough}
use Rattle.search_reach.specs.Moved.{IsMoved}
use Rattle.search_reach.specs.Ways.{AreNumbered}

-- What equals another is equalled by it.
pub equal_back : {S : Type 0} (eq : S → S → Bool) → IsEquivalence eq → (x y : S) → eq x y ≡ true → eq y x ≡ true
equal_back eq is x y e = is.symm y x ∙ e

module _ {S W E : Type 0} (k : StepSystem S W E) (has : List S → Type 0) where
  -- One of the states has this index, and can be met.
  abbrev pub HasMetAt : ℕ → Type 0
  HasMetAt at = (ks : List S) × (s : S) × has ks × (slice_get ks at ≡ Some s) × IsMet k s

  -- It is so of the one with this index.
  abbrev pub OfStateAt : ℕ → (List S → S → Type 0) → Type 0
  OfStateAt at so = (ks : List S) (s : S) → has ks → slice_get ks at ≡ Some s → IsMet k s → so ks s

  -- It has a first state, and no other.
  pub record HasFirst : Type 0 where
    pub state : S
    pub is : IsFirst k state
    pub held : has (state ∷ [])

  module _ (eq : S → S → Bool) where
    -- It has the next states of s, and the moves to them were noted.
    pub record GoesOn (ks : List S) (at : ℕ) (s : S) (before after : List Move) : Type 0 where
      pub next : List (NextState S)
      pub are : AreNext k s next
      pub states : List S
      pub held : has states
      pub gains : Gains ks next states
      pub noted : length states < 2 ^ 32 → Notes eq states at next before after

    -- Where a search begins: none of the states has ended as is looked for.
    pub record IsBegun (sought : E → Type 0) (moves : List Move) : Type 0 where
      pub states : List S
      pub held : has states
      pub explored : ExploredTo k eq states moves 0
      pub moved : IsMoved k eq states moves
      pub passed : ArePassed k sought states

    -- What a search found that was to meet no more than `most` states and a few, and to end at an ending that is looked
    -- for; and how many levels are complete.
    pub record IsReached (most : ℕ) (wish : Wish) (sought : E → Type 0) (moves : List Move) (verdict : Verdict)
        (levels : Option ℕ) : Type 0 where
      pub states : List S
      pub held : has states
      pub found : IsFound (record { complete = IsAll k; sound = IsSound k; lost = CanGetStuck k }) most wish verdict
          (length states) states
      pub whole : IsWhole k eq states moves verdict
      pub moved : AreNumbered verdict (length states) → IsMoved k eq states moves
      pub seeks : SeeksAmong k sought verdict states
      pub gone_through : HasGoneThrough k states levels

  -- Each of the states can be met.
  abbrev pub HasSound : Type 0
  HasSound = (ks : List S) × has ks × IsSound k ks

  -- It is so where each of the states can be met.
  abbrev pub OfStates : (List S → Type 0) → Type 0
  OfStates so = (ks : List S) → has ks → IsSound k ks → so ks

-- With these states it goes on from the one with this index of those, and notes the moves.
abbrev pub GoesOnAt : {S W E : Type 0} → StepSystem S W E → (List S → Type 0) → (S → S → Bool) → (List S → Type 0) → ℕ
    → List Move → List Move → Type 0
GoesOnAt k before eq after at moves noted = OfStateAt k before at (λ ks s. GoesOn k after eq ks at s moves noted)

-- What a search found in a table.
abbrev pub IsReachedIn : {S W E T : Type 0} → StepSystem S W E → (S → S → Bool) → (T → List S → Type 0) → ℕ → Wish → (E → Type 0)
    → Reached T → Type 0
IsReachedIn k eq holds most wish sought r = IsReached k (holds r.table) eq most wish sought r.moves.items r.verdict r.levels

-- The endings of the states, which are compared so, and a mark for each.
pub record AreGathered {S W E : Type 0} (k : StepSystem S W E) (eq : E → E → Bool) (ks : List S) (es : List E) (marks : List Bool)
    : Type 0 where
  pub all : AllEnds k eq ks es
  pub sound : AreEnds k es
  pub of : AreEndsOf k ks es
  pub marks_are : AllZip (IsMarkedSo k) ks marks
