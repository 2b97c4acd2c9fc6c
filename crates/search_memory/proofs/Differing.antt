-- One byte more of a list over another.
use Rattle.std.proofs.Common.{◌≡◌, ℕ, zero, suc, ◌<◌, List, [], ◌∷◌, ◌++◌, length, take, drop, fold, get_or, refl, sym, ap, subst, arith, ◌+◌}
use Rattle.std.specs.Prelude.{slice_set}

-- a byte that differs is changed
changed : (bytes first : List ℕ) (i d : ℕ) → i < length bytes → length first ≡ length bytes
    → slice_set (take i bytes ++ drop i first) i (get_or bytes i d) ≡ take (suc i) bytes ++ drop (suc i) first
changed [] first i d low long = absurd (omega (arith, low))
changed (b ∷ bytes) [] i d low long = absurd (omega (arith, long))
changed (b ∷ bytes) (f ∷ first) zero d low long = refl
changed (b ∷ bytes) (f ∷ first) (suc i) d low long = ap (λ xs. b ∷ xs) (changed bytes first i d (omega (arith, low)) (omega (arith, long)))

-- one that doesn't is left
left : (bytes first : List ℕ) (i d : ℕ) → i < length bytes → length first ≡ length bytes → get_or bytes i d ≡ get_or first i d
    → take i bytes ++ drop i first ≡ take (suc i) bytes ++ drop (suc i) first
left [] first i d low long same = absurd (omega (arith, low))
left (b ∷ bytes) [] i d low long same = absurd (omega (arith, long))
left (b ∷ bytes) (f ∷ first) zero d low long same = ap (λ x. x ∷ first) (sym same)
left (b ∷ bytes) (f ∷ first) (suc i) d low long same = ap (λ xs. b ∷ xs) (left bytes first i d (omega (arith, low)) (omega (arith, long)) same)

module _ (bytes first : List ℕ) (i d : ℕ) (low : i < length bytes) (long : length first ≡ length bytes) where
  abbrev pub Now : List ℕ → ℕ → Type 0
  Now before k = before ≡ take k bytes ++ drop k first

  next : suc i ≡ i + 1
  next = omega arith

  pub changed_one : Now (slice_set (take i bytes ++ drop i first) i (get_or bytes i d)) (i + 1)
  changed_one = subst (Now (slice_set (take i bytes ++ drop i first) i (get_or bytes i d))) next (changed bytes first i d low long)

  pub left_one : get_or bytes i d ≡ get_or first i d → Now (take i bytes ++ drop i first) (i + 1)
  left_one same = subst (Now (take i bytes ++ drop i first)) next (left bytes first i d low long same)

-- a fold goes over one item more
pub fold_more : {A B : Type 0} (f : B → A → B) (z : B) (xs : List A) (x : A) → fold f z (xs ++ x ∷ []) ≡ f (fold f z xs) x
fold_more f z [] x = refl
fold_more f z (y ∷ xs) x = fold_more f (f z y) xs x
