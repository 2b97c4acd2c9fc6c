-- Elements of a list of which one was replaced, or all are the same.
use Rattle.std.proofs.Common.{◌≡◌, ◌≢◌, ◌∙◌, ℕ, ◌<◌, ◌≤◌, List, length, replicate, Some, inl, inr, refl, sym, ap, arith}
use Rattle.std.proofs.Common.{get_or, slice_get, slice_set, length-set}
use Rattle.std.proofs.lemmas.Bool.{cases_lt}
use Rattle.std.proofs.lemmas.List.{get_or-set_same, get_or-set_other}
use Rattle.std.proofs.lemmas.List.Elements.{All-replicate}
use Rattle.std.proofs.lemmas.Option.{slice_get-get_or, slice_get_within, slice_get_past, get_or_from_slice_get}

pub set_same : {X : Type 0} (xs : List X) (n : ℕ) (y : X) → n < length xs → slice_get (slice_set xs n y) n ≡ Some y
set_same xs n y lt =
    let lt2 : n < length (slice_set xs n y) = omega (arith, length-set xs n y) in
    slice_get-get_or (slice_set xs n y) n y lt2 ∙ ap (λ z. Some z) (get_or-set_same xs n y y lt)

pub set_other : {X : Type 0} (xs : List X) (n m : ℕ) (y : X) → m ≢ n → slice_get (slice_set xs n y) m ≡ slice_get xs m
set_other xs n m y apart =
    elim (cases_lt m (length xs)) [
      | inl lt ↦ (let lt2 : m < length (slice_set xs n y) = omega (arith, length-set xs n y) in
          slice_get-get_or (slice_set xs n y) m y lt2 ∙ (ap (λ z. Some z) (get_or-set_other xs n m y y apart) ∙ sym (slice_get-get_or xs m y lt)))
      | inr le ↦ (let le2 : length (slice_set xs n y) ≤ m = omega (arith, length-set xs n y) in
          slice_get_past (slice_set xs n y) m le2 ∙ sym (slice_get_past xs m le))
    ]

same_Some : {X : Type 0} (x y : X) → Some x ≡ Some y → x ≡ y
same_Some x y e = cc

-- what was set is what is there
pub set_is : {X : Type 0} (xs : List X) (n : ℕ) (y z : X) → slice_get (slice_set xs n y) n ≡ Some z → y ≡ z
set_is xs n y z is =
    let within : n < length xs = omega (arith, length-set xs n y, slice_get_within (slice_set xs n y) n z is) in
    same_Some y z (sym (set_same xs n y within) ∙ is)

pub replicate_is : {X : Type 0} (n : ℕ) (x : X) (k : ℕ) (y : X) → slice_get (replicate n x) k ≡ Some y → x ≡ y
replicate_is {X} n x k y is =
    let same : (z : X) → Type 0 = λ z. x ≡ z in
    let here : get_or (replicate n x) k y ≡ y = get_or_from_slice_get (replicate n x) k y y is in
    All-replicate same n x refl k y (slice_get_within (replicate n x) k y is) ∙ here
