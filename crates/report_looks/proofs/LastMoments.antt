-- The last ones of some places.
use Rattle.std.proofs.Common.{◌≡◌, ◌+◌, ◌<◌, ℕ, List, ◌∷◌, length, drop, get_or, subst, sym}
use Rattle.std.proofs.lemmas.List.{drop_more}
use Rattle.std.specs.List.{AllZip}

-- One in front of those that a list has from a place on.
pub zip_before : {A B : Type 0} (R : A → B → Type 0) (xs : List A) (ys : List B) (k above : ℕ) (d : A) (y : B) → above ≡ k + 1
    → k < length xs → AllZip R (drop above xs) ys → R (get_or xs k d) y → AllZip R (drop k xs) (y ∷ ys)
zip_before {A} {B} R xs ys k above d y is lt p r =
    let next = subst (λ (n : ℕ). AllZip R (drop n xs) ys) is p in
    subst (λ (l : List A). AllZip R l (y ∷ ys)) (sym (drop_more xs k d lt)) (r, next)
