-- Where the first of a list is found.
use Rattle.std.proofs.Common.{◌≡◌, ℕ, zero, suc, ◌<◌, Bool, true, false, List, [], ◌∷◌, length, get_or, find, Some, None}
use Rattle.std.proofs.Common.{refl, arith}

pub found_at : {X : Type 0} (p : X → Bool) (xs : List X) (i : ℕ) (d : X) → i < length xs
    → ((k : ℕ) → k < i → p (get_or xs k d) ≡ false) → p (get_or xs i d) ≡ true → find p xs ≡ Some (get_or xs i d)
found_at p [] i d lt before here = absurd (omega arith)
found_at p (x ∷ xs) zero d lt before here = rw here refl
found_at p (x ∷ xs) (suc i) d lt before here =
    let first : p x ≡ false = before 0 (omega arith) in
    rw first (found_at p xs i d (omega arith) (λ k h. before (suc k) (omega arith)) here)

pub none_found : {X : Type 0} (p : X → Bool) (xs : List X) (d : X)
    → ((k : ℕ) → k < length xs → p (get_or xs k d) ≡ false) → find p xs ≡ None
none_found p [] d before = refl
none_found p (x ∷ xs) d before =
    let first : p x ≡ false = before 0 (omega arith) in
    rw first (none_found p xs d (λ k h. before (suc k) (omega arith)))
