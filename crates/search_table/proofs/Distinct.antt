-- Lists of which no two are equal.
use Rattle.std.specs.Prelude.{ℕ, zero, suc, ◌≡◌, ◌||◌, Bool, true, false, List, [], ◌∷◌, Some, refl}
use Rattle.std.proofs.Common.{ap, subst, sym, ◌∙◌, true≢false}
use Rattle.std.proofs.lemmas.Option.{none-some}
use Rattle.std.specs.List.{slice_get, list_any, AllByRecursion, IsDistinct}

pub all-at : {A : Type 0} (P : A → Type 0) (xs : List A) (i : ℕ) (x : A) → AllByRecursion P xs → slice_get xs i ≡ Some x → P x
all-at P [] i x all at = absurd (none-some x at)
all-at P (y ∷ xs) zero x all at = let same : y ≡ x = cc at in subst P same all.0
all-at P (y ∷ xs) (suc i) x all at = all-at P xs i x all.1 at

module _ {A : Type 0} (eq : A → A → Bool) (symm : (x y : A) → eq x y ≡ true → eq y x ≡ true) where
  -- among keys none of which are equal
  pub same-place : (xs : List A) → IsDistinct eq xs → (i j : ℕ) (x y : A) → slice_get xs i ≡ Some x → slice_get xs j ≡ Some y → eq x y ≡ true → i ≡ j
  unfolding IsDistinct
  same-place [] d i j x y at there e = absurd (none-some x at)
  same-place (z ∷ xs) d zero zero x y at there e = refl
  same-place (z ∷ xs) d zero (suc j) x y at there e =
      let same : z ≡ x = cc at in
      let apart = all-at (λ v. eq z v ≡ false) xs j y d.0 there in
      absurd (true≢false (sym e ∙ (ap (λ v. eq v y) (sym same) ∙ apart)))
  same-place (z ∷ xs) d (suc i) zero x y at there e =
      let same : z ≡ y = cc there in
      let apart = all-at (λ v. eq z v ≡ false) xs i x d.0 at in
      absurd (true≢false (sym (symm x y e) ∙ (ap (λ v. eq v x) (sym same) ∙ apart)))
  same-place (z ∷ xs) d (suc i) (suc j) x y at there e = ap suc (same-place xs d.1 i j x y at there e)

module _ {A : Type 0} (eq : A → A → Bool) where
  -- what isn't in a list equals none of its keys
  pub none-equal : ((x y : A) → eq x y ≡ true → x ≡ y) → (xs : List A) (y : A) → ((i : ℕ) → slice_get xs i ≡ Some y → ⊥) → list_any (eq y) xs ≡ false
  none-equal exact [] y none = refl
  none-equal exact (x ∷ xs) y none = by (none-equal exact xs y (λ i at. none (suc i) at)) (eq y x) refl
    where
      by : list_any (eq y) xs ≡ false → (b : Bool) → eq y x ≡ b → list_any (eq y) (x ∷ xs) ≡ false
      by rest true e = absurd (none 0 (ap (λ v. Some v) (sym (exact y x e))))
      by rest false e = ap (λ b. b || list_any (eq y) xs) e ∙ rest
