-- Counts of zeros and ones in sequences of bits.
use Rattle.std.proofs.Common.{◌≡◌, ℕ, zero, suc, ◌+◌, ◌*◌, ◌/◌, ◌%◌, ◌^◌, ◌<◌, ◌≤◌, ◌⊎◌, inl, inr, [], ◌∷◌, ◌++◌}
use Rattle.std.proofs.Common.{reverse, Bool, refl, sym, ap, ap₂, ◌∙◌, subst, mod-eq_of_lt, arith}
use Rattle.std.specs.Prelude.{nat_eq, cond, count_by}
use Rattle.std.specs.List.{prefix_len}
use Rattle.std.specs.Int.{bit_at}
use Rattle.std.specs.Int.Count.{count_leading_zeros, count_trailing_zeros, ones, leading_unique, ones_in, under}
use Rattle.std.proofs.lemmas.Nat.{pow_pos, shr_below, shr_split, mod_below, ones_cat, mod-pow-add}
use Rattle.std.proofs.lemmas.Nat.Bits.{bit_at-lt, bit_at-suc, bit_at_lowest}
use Rattle.std.proofs.lemmas.List.{reverse-append}
use Rattle.std.proofs.lemmas.List.Sums.{sum_by-cons}
use Rattle.interp_numeric.specs.Bits.{ibits}
use Rattle.interp_numeric.specs.Integers.{iclz, ictz, ipopcnt}
use Rattle.interp_numeric.proofs.BitLists.{pow-suc}

abbrev is_zero : ℕ → Bool
is_zero d = nat_eq d 0

-- a bit is 0 or 1
pub bit_cases : (i n : ℕ) → (bit_at i n ≡ 0) ⊎ (bit_at i n ≡ 1)
bit_cases i n = two (bit_at i n) (bit_at-lt i n)
  where
    two : (d : ℕ) → d < 2 → (d ≡ 0) ⊎ (d ≡ 1)
    two zero h = inl refl
    two (suc zero) h = inr refl
    two (suc (suc d)) h = absurd (omega arith)

-- the highest bit of an integer of n + 1 bits is 1 in the upper half, and 0 in the lower
top_bit : (n i : ℕ) → i < 2 ^ suc n → bit_at i n ≡ i / 2 ^ n
top_bit n i fits = let q : i / 2 ^ n < 2 = shr_below i 1 n (subst (λ (j : ℕ). i < 2 ^ j) (let e : suc n ≡ 1 + n = omega arith in e) fits) in mod-eq_of_lt q

-- what is left of an integer below its highest one
pub record Leads (n i r : ℕ) : Type 0 where
  pub left : ℕ
  pub sum : r + left ≡ n
  pub below : i < 2 ^ left
  pub above : 2 ^ left ≤ 2 * i + 1

more : (n i d r : ℕ) → i < 2 ^ suc n → d ≡ i / 2 ^ n → (i < 2 ^ n → Leads n i r) → (d ≡ 0) ⊎ (d ≡ 1) → Leads (suc n) i (cond (is_zero d) (1 + r) 0)
more n i d r fits top rest (inl z) =
    let q : i / 2 ^ n ≡ 0 = omega arith in
    let split = sym (ap (λ h. h * 2 ^ n + i % 2 ^ n) q) ∙ shr_split i n in
    let low : i < 2 ^ n = omega (arith, mod_below i (2 ^ n) (pow_pos n)) in
    let l = rest low in
    rw z (record { left = l.left; sum = let s = l.sum in omega arith; below = l.below; above = l.above })
more n i d r fits top rest (inr o) =
    let q : i / 2 ^ n ≡ 1 = omega arith in
    let split = sym (ap (λ h. h * 2 ^ n + i % 2 ^ n) q) ∙ shr_split i n in
    rw o (record { left = suc n; sum = omega arith; below = fits; above = let p = pow-suc n in omega arith })

leads : (n i : ℕ) → i < 2 ^ n → Leads n i (prefix_len is_zero (ibits n i))
unfolding ibits
leads zero i fits = record { left = 0; sum = refl; below = fits; above = omega arith }
leads (suc n) i fits = more n i (bit_at i n) (prefix_len is_zero (ibits n i)) fits (top_bit n i fits) (leads n i) (bit_cases i n)

pub iclz-is : (N i : ℕ) → i < 2 ^ N → iclz N i ≡ count_leading_zeros N i
unfolding iclz
iclz-is N i fits = let l = leads N i fits in leading_unique N i (prefix_len is_zero (ibits N i)) l.left l.sum l.below l.above

-- the lowest bit stands last
ibits-last : (n i : ℕ) → ibits (suc n) i ≡ ibits n (i / 2) ++ (i % 2 ∷ [])
unfolding ibits
ibits-last zero i = let e : i / 2 ^ 0 ≡ i = omega arith in ap (λ q. q % 2 ∷ []) e
ibits-last (suc n) i = ap₂ (λ d bits. d ∷ bits) (bit_at-suc i n) (ibits-last n i)

trailing : (n i : ℕ) → prefix_len is_zero (reverse (ibits n i)) ≡ count_trailing_zeros n i
unfolding ibits count_trailing_zeros
trailing zero i = refl
trailing (suc n) i =
    ap (λ bits. prefix_len is_zero (reverse bits)) (ibits-last n i)
    ∙ ap (prefix_len is_zero) (reverse-append (ibits n (i / 2)) (i % 2 ∷ []))
    ∙ step (i % 2) (prefix_len is_zero (reverse (ibits n (i / 2)))) (count_trailing_zeros n (i / 2)) (lowest_cases i) (trailing n (i / 2))
  where
    lowest_cases : (i : ℕ) → (i % 2 ≡ 0) ⊎ (i % 2 ≡ 1)
    lowest_cases i = subst (λ (d : ℕ). (d ≡ 0) ⊎ (d ≡ 1)) (bit_at_lowest i) (bit_cases i 0)

    step : (d r t : ℕ) → (d ≡ 0) ⊎ (d ≡ 1) → r ≡ t → cond (is_zero d) (1 + r) 0 ≡ under d t
    step d r t (inl z) e = rw z (omega arith)
    step d r t (inr o) e = rw o refl

pub ictz-is : (N i : ℕ) → ictz N i ≡ count_trailing_zeros N i
unfolding ictz
ictz-is N i = trailing N i

-- a bit counts itself
one_bit : (d : ℕ) → (d ≡ 0) ⊎ (d ≡ 1) → cond (nat_eq d 1) 1 0 ≡ ones d
unfolding ones ones_in
one_bit d (inl z) = rw z refl
one_bit d (inr o) = rw o refl

-- the ones of an integer are that of its highest bit and those of the others
ones-split : (n i : ℕ) → count_by (λ d. nat_eq d 1) (ibits n i) ≡ ones (i % 2 ^ n)
unfolding ibits
ones-split zero i = let e : i % 2 ^ 0 ≡ 0 = omega arith in rw e (one_bit 0 (inl refl))
ones-split (suc n) i =
    let e : suc n ≡ 1 + n = omega arith in
    let split : i % 2 ^ suc n ≡ bit_at i n * 2 ^ n + i % 2 ^ n = ap (λ j. i % 2 ^ j) e ∙ mod-pow-add i 1 n in
    sum_by-cons (λ d. cond (nat_eq d 1) 1 0) (bit_at i n) (ibits n i)
    ∙ ap₂ (λ a b. a + b) (one_bit (bit_at i n) (bit_cases i n)) (ones-split n i)
    ∙ sym (ap ones split ∙ ones_cat n (bit_at i n) (i % 2 ^ n) (mod_below i (2 ^ n) (pow_pos n)))

pub ipopcnt-is : (N i : ℕ) → i < 2 ^ N → ipopcnt N i ≡ ones i
unfolding ipopcnt
ipopcnt-is N i fits = ones-split N i ∙ ap ones (mod-eq_of_lt fits)
