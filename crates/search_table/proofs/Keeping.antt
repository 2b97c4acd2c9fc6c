-- Lists that grow.
use Rattle.std.specs.Prelude.{ℕ, zero, suc, ◌≡◌, Bool, true, false, List, [], ◌∷◌, ◌++◌, length, Some, None, refl, if◌then◌else◌}
use Rattle.std.proofs.Common.{ap, sym, ◌⊎◌, inl, inr}
use Rattle.std.proofs.lemmas.Option.{none-some}
use Rattle.std.specs.List.{slice_get, list_any}
use Rattle.indexmap.specs.IndexSet.{insert_key}
use Rattle.search_table.specs.Tables.{Keeps}

module _ {A : Type 0} where
  pub keeps-self : (xs : List A) → Keeps xs xs
  keeps-self xs i x at = at

  pub keeps-longer : (xs ys : List A) → Keeps xs (xs ++ ys)
  keeps-longer [] ys i x at = absurd (none-some x at)
  keeps-longer (z ∷ xs) ys zero x at = at
  keeps-longer (z ∷ xs) ys (suc i) x at = keeps-longer xs ys i x at

  -- an insertion keeps the keys
  pub keeps-insert : (eq : A → A → Bool) (xs : List A) (x : A) → Keeps xs (insert_key eq xs x)
  keeps-insert eq xs x = by (list_any (eq x) xs)
    where
      by : (b : Bool) → Keeps xs (if b then xs else xs ++ x ∷ [])
      by true = keeps-self xs
      by false = keeps-longer xs (x ∷ [])

  -- the last one
  pub get-last : (xs : List A) (y : A) → slice_get (xs ++ y ∷ []) (length xs) ≡ Some y
  get-last [] y = refl
  get-last (x ∷ xs) y = get-last xs y

  -- what stands there then
  pub at-longer : (xs : List A) (y : A) (i : ℕ) (x : A) → slice_get (xs ++ y ∷ []) i ≡ Some x → (slice_get xs i ≡ Some x) ⊎ ((i ≡ length xs) × (y ≡ x))
  at-longer [] y zero x at = inr (refl, cc at)
  at-longer [] y (suc i) x at = absurd (cc at)
  at-longer (z ∷ xs) y zero x at = inl at
  at-longer (z ∷ xs) y (suc i) x at = elim (at-longer xs y i x at) [
    | inl was ↦ inl was
    | inr last ↦ inr (ap suc last.0, last.1)
  ]
