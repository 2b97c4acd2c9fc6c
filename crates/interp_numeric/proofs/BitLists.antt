-- Sequences of bits: the integer that parts of one and joined ones stand for.
use Rattle.std.proofs.Common.{◌≡◌, ℕ, zero, suc, ◌+◌, ◌-◌, ◌*◌, ◌/◌, ◌%◌, ◌^◌, ◌<◌, ◌≤◌, List, [], ◌∷◌, ◌++◌, length}
use Rattle.std.proofs.Common.{take, drop, replicate, refl, sym, ap, ap₂, ◌∙◌, subst, mod-eq_of_lt, arith}
use Rattle.std.proofs.lemmas.Nat.{pow-add, mod-pow-add, shr-shr, field_of}
use Rattle.std.proofs.lemmas.List.{length-append, length-replicate}
use Rattle.std.specs.Int.{bit_at}
use Rattle.interp_numeric.specs.Bits.{ibits, of_ibits}

-- a power of two more
pub pow-suc : (n : ℕ) → 2 ^ suc n ≡ 2 ^ n * 2
pow-suc n = let e : suc n ≡ n + 1 = omega arith in ap (λ j. 2 ^ j) e ∙ pow-add 2 n 1

-- the bits are as many as were asked for
pub length-ibits : (n i : ℕ) → length (ibits n i) ≡ n
unfolding ibits
length-ibits zero i = refl
length-ibits (suc n) i = let r = length-ibits n i in omega arith

-- the bits of an integer stand for it, but for what lies above them
pub of_ibits-ibits : (n i : ℕ) → of_ibits (ibits n i) ≡ i % 2 ^ n
unfolding ibits of_ibits
of_ibits-ibits zero i = omega arith
of_ibits-ibits (suc n) i =
    let r = of_ibits-ibits n i in
    let l = length-ibits n i in
    let e : suc n ≡ 1 + n = omega arith in
    rw (l, r) (sym (ap (λ j. i % 2 ^ j) e ∙ mod-pow-add i 1 n))

-- two sequences joined: the first counts as much more as there are bits in the second
pub of_ibits-append : (xs ys : List ℕ) → of_ibits (xs ++ ys) ≡ of_ibits xs * 2 ^ length ys + of_ibits ys
unfolding of_ibits
of_ibits-append [] ys = omega arith
of_ibits-append (d ∷ xs) ys =
    let r = of_ibits-append xs ys in
    let p : 2 ^ length (xs ++ ys) ≡ 2 ^ length xs * 2 ^ length ys = ap (λ j. 2 ^ j) (length-append xs ys) ∙ pow-add 2 (length xs) (length ys) in
    rw (r, p) (omega arith)

-- the highest bits are those of the integer shifted down
pub take-ibits : (k m i : ℕ) → take k (ibits (k + m) i) ≡ ibits k (i / 2 ^ m)
unfolding ibits
take-ibits zero m i = refl
take-ibits (suc k) m i =
    let e : suc k + m ≡ suc (k + m) = omega arith in
    let order : m + k ≡ k + m = omega arith in
    let first : bit_at i (k + m) ≡ bit_at (i / 2 ^ m) k = ap (λ q. q % 2) (ap (λ j. i / 2 ^ j) (sym order) ∙ sym (shr-shr i m k)) in
    rw e (ap₂ (λ d bits. d ∷ bits) first (take-ibits k m i))

-- the lowest ones are those of the same integer
pub drop-ibits : (k m i : ℕ) → drop k (ibits (k + m) i) ≡ ibits m i
unfolding ibits
drop-ibits zero m i = let e : 0 + m ≡ m = omega arith in rw e refl
drop-ibits (suc k) m i = let e : suc k + m ≡ suc (k + m) = omega arith in rw e (drop-ibits k m i)

-- zeros stand for nothing
pub of_ibits-zeros : (k : ℕ) → of_ibits (replicate k 0) ≡ 0
unfolding of_ibits
of_ibits-zeros zero = refl
of_ibits-zeros (suc k) = let r = of_ibits-zeros k in rw r (omega arith)

-- ones stand for the greatest integer
pub of_ibits-ones : (k : ℕ) → of_ibits (replicate k 1) + 1 ≡ 2 ^ k
unfolding of_ibits
of_ibits-ones zero = refl
of_ibits-ones (suc k) =
    let r = of_ibits-ones k in
    let l : 2 ^ length {A = ℕ} (replicate k 1) ≡ 2 ^ k = ap (λ j. 2 ^ j) (length-replicate k 1) in
    let p = pow-suc k in
    omega arith

-- the highest bits, and the lowest ones, of N in all
pub of_ibits-take : (N k i : ℕ) → k ≤ N → i < 2 ^ N → of_ibits (take k (ibits N i)) ≡ i / 2 ^ (N - k)
of_ibits-take N k i within fits =
    let e : N ≡ k + (N - k) = omega arith in
    let wide : i < 2 ^ (k + (N - k)) = subst (λ (j : ℕ). i < 2 ^ j) e fits in
    let whole : i % 2 ^ (k + (N - k)) ≡ i = mod-eq_of_lt wide in
    ap (λ n. of_ibits (take k (ibits n i))) e ∙ ap of_ibits (take-ibits k (N - k) i)
    ∙ of_ibits-ibits k (i / 2 ^ (N - k)) ∙ sym (field_of i k (N - k)) ∙ ap (λ j. j / 2 ^ (N - k)) whole

pub of_ibits-drop : (N k i : ℕ) → k ≤ N → of_ibits (drop k (ibits N i)) ≡ i % 2 ^ (N - k)
of_ibits-drop N k i within =
    let e : N ≡ k + (N - k) = omega arith in
    ap (λ n. of_ibits (drop k (ibits n i))) e ∙ ap of_ibits (drop-ibits k (N - k) i) ∙ of_ibits-ibits (N - k) i
