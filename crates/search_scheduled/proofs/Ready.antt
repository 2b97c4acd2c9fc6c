-- The threads up to a number that can go on.
use Rattle.std.proofs.Common.{ℕ, ◌≡◌, ◌+◌, ◌<◌, ◌==◌, true, List, [], ◌∷◌, ◌++◌, All, length, below_more, sym, arith}
use Rattle.std.specs.Prelude.{Contains}
use Rattle.std.proofs.lemmas.Bool.{eqb-true}
use Rattle.std.proofs.lemmas.List.Elements.{All-push, Contains-append_left, Contains-push}
use Rattle.interp_trait.specs.Turns.{Meaning}
use Rattle.replay_walk.specs.Standing.{MayBeTaken, HasGoneIfFree}
use Rattle.replay_walk.specs.declared.stage.Stage.{Stage}
use Rattle.search_scheduled.specs.Courses.{AreAscending, IsEachReady}
use Rattle.search_scheduled.proofs.Ascending.{AreBelow, ascends, below_on, below_then}

module _ {S : Type 0} (meaning : S → Meaning) (stage : Stage) where
  -- of the threads below a number, these can go on
  pub record AreReadyBelow (n : ℕ) (ready : List ℕ) : Type 0 where
    pub order : AreAscending ready
    pub below : AreBelow n ready
    pub can : All (MayBeTaken meaning stage) ready
    pub others : (k : ℕ) → k < n → (Contains ready k → ⊥) → HasGoneIfFree meaning stage k

  pub one_more : (n : ℕ) (ready : List ℕ) → AreReadyBelow n ready → MayBeTaken meaning stage n → AreReadyBelow (n + 1) (ready ++ n ∷ [])
  one_more n ready r may = record {
    order = ascends ready n r.order r.below;
    below = below_then n ready r.below;
    can = All-push (MayBeTaken meaning stage) ready n r.can may;
    others = below_more (λ (k : ℕ). (Contains (ready ++ n ∷ []) k → ⊥) → HasGoneIfFree meaning stage k) n
        (λ k less not. r.others k less (λ has. not (Contains-append_left ready (n ∷ []) k has)))
        (λ not. absurd (not (Contains-push ready n)));
  }

  pub none_more : (n : ℕ) (ready : List ℕ) → AreReadyBelow n ready → HasGoneIfFree meaning stage n → AreReadyBelow (n + 1) ready
  none_more n ready r gone = record {
    order = r.order;
    below = below_on n ready r.below;
    can = r.can;
    others = below_more (λ (k : ℕ). (Contains ready k → ⊥) → HasGoneIfFree meaning stage k) n r.others (λ not. gone);
  }

  -- nobody can go on
  pub none_ready : (ready : List ℕ) → true ≡ (length ready == 0) → IsEachReady meaning stage ready → IsEachReady meaning stage []
  none_ready [] is each = each
  none_ready (n ∷ ready) is each = let none : length (n ∷ ready) ≡ 0 = eqb-true (length (n ∷ ready)) 0 (sym is) in absurd (omega arith)
