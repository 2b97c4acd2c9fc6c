-- Shifts and rotations of sequences of bits, as products and quotients by powers of two.
use Rattle.std.proofs.Common.{◌≡◌, ℕ, zero, suc, ◌+◌, ◌-◌, ◌*◌, ◌/◌, ◌%◌, ◌^◌, ◌<◌, ◌≤◌, length, take, drop}
use Rattle.std.proofs.Common.{replicate, refl, sym, ap, ap₂, ◌∙◌, subst, bit_or, mod-eq_of_lt, arith}
use Rattle.std.proofs.Math.Nat.{mod_self, div-eq_of_lt}
use Rattle.std.proofs.lemmas.Nat.{pow-add, pow_pos, mod-pow-add, shl-shr, shr_below, or_shifted, mod_low}
use Rattle.std.specs.Int.Bits.{or_shifted_r, or_self}
use Rattle.std.proofs.lemmas.List.{length-replicate, length-take-le, length-drop}
use Rattle.interp_numeric.specs.Bits.{ibits, of_ibits}
use Rattle.interp_numeric.specs.Integers.{shifted_left, shifted_right, rotated_left, rotated_right}
use Rattle.interp_numeric.proofs.BitLists.{length-ibits, of_ibits-append, of_ibits-take, of_ibits-drop, of_ibits-zeros, of_ibits-ones}

-- the low bits moved up are the product, cut off above
moved_up : (N k i : ℕ) → k ≤ N → i % 2 ^ (N - k) * 2 ^ k ≡ i * 2 ^ k % 2 ^ N
moved_up N k i within =
    let e : N ≡ N - k + k = omega arith in
    let low : i * 2 ^ k % 2 ^ k ≡ 0 = let m = mod_low i k 0 (pow_pos k) in let e : i * 2 ^ k ≡ i * 2 ^ k + 0 = omega arith in ap (λ j. j % 2 ^ k) e ∙ m in
    sym (ap (λ j. i * 2 ^ k % 2 ^ j) e ∙ mod-pow-add (i * 2 ^ k) (N - k) k ∙ (let s = shl-shr i k in rw (s, low) (omega arith)))

pub shifted_left-is : (N k i : ℕ) → k ≤ N → shifted_left N k i ≡ i * 2 ^ k % 2 ^ N
unfolding shifted_left
shifted_left-is N k i within =
    let p : 2 ^ length {A = ℕ} (replicate k 0) ≡ 2 ^ k = ap (λ j. 2 ^ j) (length-replicate k 0) in
    of_ibits-append (drop k (ibits N i)) (replicate k 0)
    ∙ rw (p, of_ibits-zeros k, of_ibits-drop N k i within) (let m = moved_up N k i within in omega arith)

length-take-ibits : (N k i : ℕ) → k ≤ N → length (take k (ibits N i)) ≡ k
length-take-ibits N k i within = length-take-le k (ibits N i) (let l = length-ibits N i in omega arith)

length-drop-ibits : (N k i : ℕ) → k ≤ N → length (drop k (ibits N i)) ≡ N - k
length-drop-ibits N k i within = let l = length-ibits N i in omega (arith, length-drop {A = ℕ})

pub shifted_right-zeros : (N k i : ℕ) → k ≤ N → i < 2 ^ N → shifted_right 0 N k i ≡ i / 2 ^ k
unfolding shifted_right
shifted_right-zeros N k i within fits =
    let e : N - (N - k) ≡ k = omega arith in
    of_ibits-append (replicate k 0) (take (N - k) (ibits N i))
    ∙ rw (of_ibits-zeros k, of_ibits-take N (N - k) i (omega arith) fits, e) (omega arith)

-- where ones come in, the result is counted from 2 ^ N downward
pub shifted_right-ones : (N k i : ℕ) → k ≤ N → i < 2 ^ N → shifted_right 1 N k i + 2 ^ (N - k) ≡ 2 ^ N + i / 2 ^ k
unfolding shifted_right
shifted_right-ones N k i within fits =
    let e : N - (N - k) ≡ k = omega arith in
    let whole : 2 ^ N ≡ 2 ^ k * 2 ^ (N - k) = ap (λ j. 2 ^ j) (let f : N ≡ k + (N - k) = omega arith in f) ∙ pow-add 2 k (N - k) in
    let high : of_ibits (take (N - k) (ibits N i)) ≡ i / 2 ^ k = of_ibits-take N (N - k) i (omega arith) fits ∙ ap (λ j. i / 2 ^ j) e in
    let many : 2 ^ length (take (N - k) (ibits N i)) ≡ 2 ^ (N - k) = ap (λ j. 2 ^ j) (length-take-ibits N (N - k) i (omega arith)) in
    let ones : (of_ibits (replicate k 1) + 1) * 2 ^ (N - k) ≡ 2 ^ k * 2 ^ (N - k) = ap (λ j. j * 2 ^ (N - k)) (of_ibits-ones k) in
    rw (of_ibits-append (replicate k 1) (take (N - k) (ibits N i)), high, many, whole) (omega arith)

-- the low bits moved up, and the high ones below them
rotated-sum : (N k i : ℕ) → k ≤ N → i < 2 ^ N → rotated_left N k i ≡ i % 2 ^ (N - k) * 2 ^ k + i / 2 ^ (N - k)
unfolding rotated_left
rotated-sum N k i within fits =
    let many : 2 ^ length (take k (ibits N i)) ≡ 2 ^ k = ap (λ j. 2 ^ j) (length-take-ibits N k i within) in
    of_ibits-append (drop k (ibits N i)) (take k (ibits N i)) ∙ rw (many, of_ibits-drop N k i within, of_ibits-take N k i within fits) refl

high_below : (N k i : ℕ) → k ≤ N → i < 2 ^ N → i / 2 ^ (N - k) < 2 ^ k
high_below N k i within fits = shr_below i k (N - k) (subst (λ (j : ℕ). i < 2 ^ j) (let e : N ≡ k + (N - k) = omega arith in e) fits)

-- a count of 0 moves nothing
unmoved : (N i : ℕ) → 0 < N → i < 2 ^ N → bit_or (i * 2 ^ 0 % 2 ^ N) (i / 2 ^ ((N - 0) % N)) ≡ i
unmoved N i some fits =
    let same : i * 2 ^ 0 % 2 ^ N ≡ i = ap (λ j. j % 2 ^ N) (let e : i * 1 ≡ i = omega arith in e) ∙ mod-eq_of_lt fits in
    let all : i / 2 ^ ((N - 0) % N) ≡ i = ap (λ j. i / 2 ^ j)
    (let e : N - 0 ≡ N = omega arith in ap (λ j. j % N) e ∙ mod_self N)
    ∙ (let e : i / 1 ≡ i = omega arith in e) in
    ap₂ bit_or same all ∙ or_self i

unmoved_right : (N i : ℕ) → 0 < N → i < 2 ^ N → bit_or (i / 2 ^ 0) (i * 2 ^ ((N - 0) % N) % 2 ^ N) ≡ i
unmoved_right N i some fits =
    let round : (N - 0) % N ≡ 0 = let e : N - 0 ≡ N = omega arith in ap (λ j. j % N) e ∙ mod_self N in
    let same : i * 2 ^ ((N - 0) % N) % 2 ^ N ≡ i = ap (λ j. i * 2 ^ j % 2 ^ N) round
    ∙ ap (λ j. j % 2 ^ N) (let e : i * 1 ≡ i = omega arith in e) ∙ mod-eq_of_lt fits in
    let all : i / 2 ^ 0 ≡ i = omega arith in
    ap₂ bit_or all same ∙ or_self i

pub rotated_left-is : (N k i : ℕ) → k < N → i < 2 ^ N → rotated_left N k i ≡ bit_or (i * 2 ^ k % 2 ^ N) (i / 2 ^ ((N - k) % N))
rotated_left-is N zero i within fits =
    let some : 0 < N = within in
    let e : N - 0 ≡ N = omega arith in
    let low : i % 2 ^ (N - 0) ≡ i = ap (λ j. i % 2 ^ j) e ∙ mod-eq_of_lt fits in
    let high : i / 2 ^ (N - 0) ≡ 0 = ap (λ j. i / 2 ^ j) e ∙ div-eq_of_lt fits in
    rotated-sum N 0 i (omega arith) fits ∙ rw (low, high) (let f : i * 1 + 0 ≡ i = omega arith in f) ∙ sym (unmoved N i some fits)
rotated_left-is N (suc k) i within fits =
    let round : (N - suc k) % N ≡ N - suc k = mod-eq_of_lt (let l : N - suc k < N = omega arith in l) in
    let up = moved_up N (suc k) i (omega arith) in
    rotated-sum N (suc k) i (omega arith) fits
    ∙ sym (ap₂ bit_or (sym up) (ap (λ j. i / 2 ^ j) round)
    ∙ or_shifted (i % 2 ^ (N - suc k)) (suc k) (i / 2 ^ (N - suc k)) (high_below N (suc k) i (omega arith) fits))

pub rotated_right-is : (N k i : ℕ) → k < N → i < 2 ^ N → rotated_right N k i ≡ bit_or (i / 2 ^ k) (i * 2 ^ ((N - k) % N) % 2 ^ N)
unfolding rotated_left rotated_right
rotated_right-is N zero i within fits =
    let e : N - (N - 0) ≡ 0 = omega arith in
    let low : i % 2 ^ (N - (N - 0)) ≡ 0 = ap (λ j. i % 2 ^ j) e ∙ (let f : i % 1 ≡ 0 = omega arith in f) in
    let high : i / 2 ^ (N - (N - 0)) ≡ i = ap (λ j. i / 2 ^ j) e ∙ (let f : i / 1 ≡ i = omega arith in f) in
    rotated-sum N (N - 0) i (omega arith) fits ∙ rw (low, high) (let f : 0 * 2 ^ (N - 0) + i ≡ i = omega arith in f) ∙ sym (unmoved_right N i within fits)
rotated_right-is N (suc k) i within fits =
    let e : N - (N - suc k) ≡ suc k = omega arith in
    let round : (N - suc k) % N ≡ N - suc k = mod-eq_of_lt (let l : N - suc k < N = omega arith in l) in
    let high : i / 2 ^ (N - (N - suc k)) ≡ i / 2 ^ suc k = ap (λ j. i / 2 ^ j) e in
    let up : i % 2 ^ (N - (N - suc k)) * 2 ^ (N - suc k) ≡ i * 2 ^ ((N - suc k) % N) % 2 ^ N =
    moved_up N (N - suc k) i (omega arith) ∙ ap (λ j. i * 2 ^ j % 2 ^ N) (sym round) in
    rotated-sum N (N - suc k) i (omega arith) fits
    ∙ sym (ap₂ bit_or (sym high) (sym up) ∙ or_shifted_r (i % 2 ^ (N - (N - suc k))) (N - suc k)
    (i / 2 ^ (N - (N - suc k))) (high_below N (N - suc k) i (omega arith) fits))
