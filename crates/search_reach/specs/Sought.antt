-- Endings that are looked for: of the states that were met, and of a list.
use Rattle.std.specs.Prelude.{◌≡◌, ◌<◌, ◌≤◌, ℕ, Bool, true, false, Some, List, Contains}
use Rattle.std.specs.List.{slice_get}
use Rattle.search_reach.specs.Search.{StepSystem, StandsFor, IsEnding, HasEqual}
use Rattle.search_reach.specs.declared.search.Verdict.{Verdict}
use Rattle.search_reach.specs.declared.search.Verdict.TheVariants as verdicts

module _ {S W E : Type 0} (k : StepSystem S W E) (Sought : E → Type 0) where
  -- Nothing that the state stands for has ended so that it is looked for.
  abbrev pub IsPassed : S → Type 0
  IsPassed s = (w : W) (e : E) → StandsFor k s w → k.ends w e → Sought e → ⊥

  abbrev pub ArePassed : List S → Type 0
  ArePassed ks = (j : ℕ) (s : S) → slice_get ks j ≡ Some s → IsPassed s

  -- It has ended so.
  pub record HasEndedSought (s : S) : Type 0 where
    pub ending : E
    pub is : IsEnding k s (Some ending)
    pub sought : Sought ending

  -- The answer says which of the two.
  abbrev pub SaysOf : Bool → S → Type 0
  SaysOf true s = HasEndedSought s
  SaysOf false s = IsPassed s

  -- The first of the states from this place on that has.
  pub record HasSoughtFrom (from : ℕ) (ks : List S) : Type 0 where
    pub at : ℕ
    pub since : from ≤ at
    pub state : S
    pub there : slice_get ks at ≡ Some state
    pub ended : HasEndedSought state
    pub before : (j : ℕ) (s : S) → from ≤ j → j < at → slice_get ks j ≡ Some s → IsPassed s

  -- The answer says whether there is one.
  abbrev pub SaysFrom : ℕ → Bool → List S → Type 0
  SaysFrom from true ks = HasSoughtFrom from ks
  SaysFrom from false ks = (j : ℕ) (s : S) → from ≤ j → slice_get ks j ≡ Some s → IsPassed s

  -- What the verdict says of the states that were met: that it was at one of them that the search ended, before which
  -- none has ended so; or that none has.
  pub record SeeksAmong (verdict : Verdict) (ks : List S) : Type 0 where
    pub some : verdict ≡ verdicts.Sought → HasSoughtFrom 0 ks
    pub none : (verdict ≡ verdicts.Sought → ⊥) → ArePassed ks

-- What it says of a list of endings, which are compared so: that one of these is looked for, or none.
pub record SeeksIn {E : Type 0} (Sought : E → Type 0) (eq : E → E → Bool) (verdict : Verdict) (es : List E) : Type 0 where
  pub some : verdict ≡ verdicts.Sought → (e : E) × Sought e × HasEqual eq es e
  pub none : (verdict ≡ verdicts.Sought → ⊥) → (e : E) → Contains es e → Sought e → ⊥
