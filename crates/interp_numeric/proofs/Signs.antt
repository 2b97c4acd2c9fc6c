-- The signed reading of integers, and that of the machine's signed types.
use Rattle.std.proofs.Common.{◌≡◌, ℕ, zero, suc, ◌+◌, ◌-◌, ◌*◌, ◌/◌, ◌%◌, ◌^◌, ◌<◌, ◌≤◌, inl, inr, Bool, true, false, refl, ap, ◌∙◌, subst, arith}
use Rattle.std.specs.Prelude.{cond, nat_lt, ℤ, pos, negsuc, ◌-ℤ◌}
use Rattle.std.specs.Int.{Width, w8, w16, w32, w64, w128, cast_signed, cast_unsigned}
use Rattle.std.proofs.lemmas.Int.{ints, of_z-to_z}
use Rattle.std.proofs.lemmas.Bool.{cases_lt}
use Rattle.std.proofs.lemmas.Bool.Decides.{nat_tests}
use mir.Val.{bits, hbits, sel}
use Rattle.std.specs.Int.Signed.{shr_z}
use Rattle.std.proofs.Math.Nat.{div-eq_of_lt}
use Rattle.std.proofs.lemmas.Nat.{pow_pos, pow-add, shr_below, shr_split, mod_below, le-div, div-mul-add}
use Rattle.interp_numeric.specs.Bits.{ibits, first_bit}
use Rattle.interp_numeric.specs.Integers.{signed, unsigned, shifted_right}
use Rattle.interp_numeric.specs.Laws.{UnsignedOfSigned}
use Rattle.interp_numeric.proofs.Shifts.{shifted_right-zeros, shifted_right-ones}

-- half of the integers have no sign
pub half : (w : Width) → bits w - 1 ≡ hbits w
half w8 = refl
half w16 = refl
half w32 = refl
half w64 = refl
half w128 = refl

under_zero : (i size : ℕ) → i < size → pos i -ℤ pos size ≡ negsuc (size - suc i)
under_zero i size h = omega (arith, ints)

chosen : (b : Bool) (x y z : ℤ) → y ≡ z → cond b x y ≡ sel b x z
chosen true x y z e = refl
chosen false x y z e = e

pub signed-is : (w : Width) (i : ℕ) → i < 2 ^ bits w → signed (bits w) i ≡ cast_signed w i
unfolding signed
signed-is w i fits = rw (half w) (chosen (nat_lt i (2 ^ hbits w)) (pos i) _ _ (under_zero i (2 ^ bits w) fits))

pub unsigned-is : (w : Width) (z : ℤ) → unsigned (bits w) z ≡ cast_unsigned w z
unfolding unsigned
unsigned-is w (pos n) = refl
unsigned-is w (negsuc n) = let e : n + 1 ≡ suc n = omega arith in ap (λ j. 2 ^ bits w - j) e

-- the signed reading of an integer, passed as an argument
pub passed : (w : Width) (i : ℕ) (l : ℤ) → i < 2 ^ bits w → l ≡ cast_signed w i → cast_signed w (cast_unsigned w l) ≡ cast_signed w i
passed w i l p e = ap (λ z. cast_signed w (cast_unsigned w z)) e ∙ ap (cast_signed w) (of_z-to_z w i p)

-- the highest bit of an integer in the lower half, and in the upper half
low_sign : (h i : ℕ) → i < 2 ^ h → first_bit (ibits (suc h) i) ≡ 0
unfolding first_bit ibits
low_sign h i low = ap (λ q. q % 2) (div-eq_of_lt low)

high_sign : (h i : ℕ) → 2 ^ h ≤ i → i < 2 ^ suc h → first_bit (ibits (suc h) i) ≡ 1
unfolding first_bit ibits
high_sign h i high fits =
    let q : i / 2 ^ h < 2 = shr_below i 1 h (subst (λ (j : ℕ). i < 2 ^ j) (let e : suc h ≡ 1 + h = omega arith in e) fits) in
    let p : 1 ≤ i / 2 ^ h = le-div 1 i (2 ^ h) (pow_pos h) (omega arith) in
    let one : i / 2 ^ h ≡ 1 = omega arith in
    ap (λ q. q % 2) one

-- what is below 2 ^ N by i and 1, shifted down
from_top : (N k i : ℕ) → k ≤ N → i < 2 ^ N → suc ((2 ^ N - suc i) / 2 ^ k) + i / 2 ^ k ≡ 2 ^ (N - k)
from_top N k i within fits =
    let e : N ≡ N - k + k = omega arith in
    let q : i / 2 ^ k < 2 ^ (N - k) = shr_below i (N - k) k (subst (λ (j : ℕ). i < 2 ^ j) e fits) in
    let whole : 2 ^ N ≡ 2 ^ (N - k) * 2 ^ k = ap (λ j. 2 ^ j) e ∙ pow-add 2 (N - k) k in
    let split = shr_split i k in
    let r = mod_below i (2 ^ k) (pow_pos k) in
    let a : ℕ = 2 ^ (N - k) - suc (i / 2 ^ k) in
    let b : ℕ = 2 ^ k - suc (i % 2 ^ k) in
    let high : a + suc (i / 2 ^ k) ≡ 2 ^ (N - k) = omega arith in
    let low : b + suc (i % 2 ^ k) ≡ 2 ^ k = omega arith in
    let all : (a + suc (i / 2 ^ k)) * 2 ^ k ≡ 2 ^ (N - k) * 2 ^ k = ap (λ j. j * 2 ^ k) high in
    let cut : 2 ^ N - suc i ≡ a * 2 ^ k + b = omega arith in
    let down : (2 ^ N - suc i) / 2 ^ k ≡ a = ap (λ j. j / 2 ^ k) cut ∙ div-mul-add a (2 ^ k) b (omega arith) in
    omega arith

-- the signed number of an integer in the lower half, and in the upper half
signed-low : (h i : ℕ) → i < 2 ^ h → signed (suc h) i ≡ pos i
unfolding signed
signed-low h i low = let e : suc h - 1 ≡ h = omega arith in rw e (grind (arith, nat_tests))

signed-high : (h i : ℕ) → 2 ^ h ≤ i → i < 2 ^ suc h → signed (suc h) i ≡ negsuc (2 ^ suc h - suc i)
unfolding signed
signed-high h i high fits = let e : suc h - 1 ≡ h = omega arith in let u = under_zero i (2 ^ suc h) fits in rw (e, u) (grind (arith, nat_tests))

-- a shift that copies the sign is that of the signed number, rounded down
pub shifted_signed : (h k i : ℕ) → k ≤ suc h → i < 2 ^ suc h
    → shifted_right (first_bit (ibits (suc h) i)) (suc h) k i ≡ unsigned (suc h) (shr_z (signed (suc h) i) (2 ^ k))
unfolding unsigned
shifted_signed h k i within fits = elim (cases_lt i (2 ^ h)) [
  | inl low ↦ rw (low_sign h i low, signed-low h i low) (shifted_right-zeros (suc h) k i within fits)
  | inr high ↦ rw (high_sign h i high fits, signed-high h i high fits) (
      let ones = shifted_right-ones (suc h) k i within fits in
      let top = from_top (suc h) k i within fits in
      omega arith)
]

-- the two readings are inverse
unsigned-signed-suc : (h i : ℕ) → i < 2 ^ suc h → unsigned (suc h) (signed (suc h) i) ≡ i
unfolding unsigned
unsigned-signed-suc h i fits = elim (cases_lt i (2 ^ h)) [
  | inl low ↦ rw (signed-low h i low) refl
  | inr high ↦ rw (signed-high h i high fits) (omega arith)
]

pub unsigned-signed : UnsignedOfSigned
unsigned-signed zero i some fits = absurd (omega arith)
unsigned-signed (suc h) i some fits = unsigned-signed-suc h i fits
