-- What the machine's operations on an unsigned type give, as the operators on integers of its width.
use Rattle.std.proofs.Common.{◌≡◌, ℕ, suc, ◌+◌, ◌-◌, ◌*◌, ◌/◌, ◌%◌, ◌^◌, ◌<◌, ◌≤◌, Result, Ok, refl, sym, ap, ◌∙◌, subst, mod-eq_of_lt, mod-lt, bit_and, arith}
use Rattle.std.specs.Prelude.{Option, Some, None, SomeIff, ℤ}
use Rattle.std.specs.Option.{ok_or}
use Rattle.std.specs.Int.{Width, w8, w16, w32, w64, w128, cast_signed, cast_unsigned, rotate_left, rotate_right}
use Rattle.std.specs.Int.Signed.{shr_z, mag_shr}
use Rattle.std.proofs.lemmas.Int.{to_z-of_z}
use Rattle.std.proofs.lemmas.Nat.{mod_below, pow_pos, and_mask}
use borrow.Author.Gap.{read_sfits}
use mir.Val.{bits, hbits}
use Rattle.types.specs.declared.outcome.Trap.{Trap}
use Rattle.types.specs.declared.outcome.Trap.TheVariants as traps
use Rattle.interp_numeric.specs.Bits.{ibits, first_bit}
use Rattle.interp_numeric.specs.Integers.{signed, unsigned, iadd, isub, imul, idiv_u, irem_u, ishl, ishr_u, ishr_s}
use Rattle.interp_numeric.specs.Integers.{irotl, irotr, wrap, extend_s, iextend_s, shifted_right}
use Rattle.interp_numeric.proofs.Shifts.{shifted_left-is, shifted_right-zeros, rotated_left-is, rotated_right-is}
use Rattle.interp_numeric.proofs.Signs.{signed-is, unsigned-is, passed, shifted_signed}
use Rattle.interp_numeric.proofs.Division.{idiv_u-zero, idiv_u-some, irem_u-zero, irem_u-some}

pub added : (N i j : ℕ) → (i + j) % 2 ^ N ≡ iadd N i j
unfolding iadd
added N i j = refl

pub subtracted : (N i j : ℕ) → j < 2 ^ N → (i + (2 ^ N - j)) % 2 ^ N ≡ isub N i j
unfolding isub
subtracted N i j q = ap (λ n. n % 2 ^ N) (let e : i + (2 ^ N - j) ≡ i + 2 ^ N - j = omega arith in e)

pub multiplied : (N i j : ℕ) → i * j % 2 ^ N ≡ imul N i j
unfolding imul
multiplied N i j = refl

pub divided : (N i j : ℕ) (quotient : Option ℕ) (answer : Result ℕ Trap) → SomeIff quotient (0 < j) (i / j)
    → answer ≡ ok_or quotient traps.DivideByZero → answer ≡ idiv_u N i j
divided N i j None answer none is = is ∙ sym (idiv_u-zero N i j (let n : 0 < j → ⊥ = none in omega (arith, n)))
divided N i j (Some q) answer some is = is ∙ ap Ok some.1 ∙ sym (idiv_u-some N i j some.0)

pub remaining : (N i j : ℕ) (remainder : Option ℕ) (answer : Result ℕ Trap) → SomeIff remainder (0 < j) (i % j)
    → answer ≡ ok_or remainder traps.DivideByZero → answer ≡ irem_u N i j
remaining N i j None answer none is = is ∙ sym (irem_u-zero N i j (let n : 0 < j → ⊥ = none in omega (arith, n)))
remaining N i j (Some r) answer some is = is ∙ ap Ok some.1 ∙ sym (irem_u-some N i j some.0)

pub shifted_up : (N i j : ℕ) → 0 < N → i * 2 ^ (j % N) % 2 ^ N ≡ ishl N i j
shifted_up N i j some = sym (shifted_left-is N (j % N) i (let m = mod_below j N some in omega arith))

pub shifted_down : (N i j : ℕ) → 0 < N → i < 2 ^ N → i / 2 ^ (j % N) ≡ ishr_u N i j
shifted_down N i j some fits = sym (shifted_right-zeros N (j % N) i (let m = mod_below j N some in omega arith) fits)

some_bits : (w : Width) → 0 < bits w
some_bits w8 = omega arith
some_bits w16 = omega arith
some_bits w32 = omega arith
some_bits w64 = omega arith
some_bits w128 = omega arith

with_sign : (w : Width) → bits w ≡ suc (hbits w)
with_sign w8 = refl
with_sign w16 = refl
with_sign w32 = refl
with_sign w64 = refl
with_sign w128 = refl

once : (w : Width) (j : ℕ) → j % bits w % bits w ≡ j % bits w
once w j = mod-eq_of_lt (mod_below j (bits w) (some_bits w))

pub turned_left : (w : Width) (i j answer : ℕ) → i < 2 ^ bits w → answer ≡ rotate_left w i (j % bits w) → answer ≡ irotl (bits w) i j
turned_left w i j answer fits is = is ∙ rw (once w j) (sym (rotated_left-is (bits w) (j % bits w) i (mod_below j (bits w) (some_bits w)) fits))

pub turned_right : (w : Width) (i j answer : ℕ) → i < 2 ^ bits w → answer ≡ rotate_right w i (j % bits w) → answer ≡ irotr (bits w) i j
turned_right w i j answer fits is = is ∙ rw (once w j) (sym (rotated_right-is (bits w) (j % bits w) i (mod_below j (bits w) (some_bits w)) fits))

-- l is the signed reading, passed as an argument
pub shifted_by_sign : (w : Width) (i j : ℕ) (l : ℤ) (answer : ℕ) → i < 2 ^ bits w → l ≡ cast_signed w i
    → answer ≡ cast_unsigned w (cast_signed w
    (cast_unsigned w (shr_z (cast_signed w (cast_unsigned w l)) (2 ^ (j % bits w))))) → answer ≡ ishr_s (bits w) i j
shifted_by_sign w i j l answer fits e is =
    let k : ℕ = j % bits w in
    let within : k ≤ bits w = let m = mod_below j (bits w) (some_bits w) in omega arith in
    let by_width = subst (λ (n : ℕ). k ≤ n → i < 2 ^ n
    → shifted_right (first_bit (ibits n i)) n k i ≡ unsigned n (shr_z (signed n i) (2 ^ k))) (sym (with_sign w))
    (shifted_signed (hbits w) k i) within fits in
    let s = read_sfits w i in
    let less = mag_shr (cast_signed w i) (2 ^ k) in
    let small = s.sfits in
    let value = ap (cast_unsigned w) (to_z-of_z w (shr_z (cast_signed w i) (2 ^ k)) (record { sfits = omega arith })) in
    is ∙ ap (λ z. cast_unsigned w (cast_signed w (cast_unsigned w (shr_z z (2 ^ k))))) (passed w i l fits e) ∙ value
    ∙ sym (by_width ∙ unsigned-is w (shr_z (signed (bits w) i) (2 ^ k)) ∙ ap (λ z. cast_unsigned w (shr_z z (2 ^ k))) (signed-is w i fits))

-- from a narrow type u to a wide type w: l is the signed reading, and z the same number of the wide type
pub extended : (u w : Width) (i : ℕ) (l z : ℤ) (answer : ℕ) → i < 2 ^ bits u → 2 ^ hbits u ≤ 2 ^ hbits w
    → l ≡ cast_signed u i → z ≡ cast_signed u (cast_unsigned u l)
    → answer ≡ cast_unsigned w (cast_signed w (cast_unsigned w z)) → answer ≡ extend_s (bits u) (bits w) i
unfolding extend_s
extended u w i l z answer fits wider e f is =
    let same : z ≡ cast_signed u i = f ∙ passed u i l fits e in
    let s = read_sfits u i in
    let small = s.sfits in
    let value = ap (cast_unsigned w) (to_z-of_z w (cast_signed u i) (record { sfits = omega arith })) in
    is ∙ ap (λ n. cast_unsigned w (cast_signed w (cast_unsigned w n))) same ∙ value
    ∙ sym (unsigned-is w (signed (bits u) i) ∙ ap (cast_unsigned w) (signed-is u i fits))

-- the low bits of a number, as a signed number of a narrow type u, in a wide type w
pub extended_low : (u w : Width) (number : ℕ) (l z : ℤ) (answer : ℕ) → 2 ^ hbits u ≤ 2 ^ hbits w → l ≡ cast_signed u (bit_and number (2 ^ bits u - 1)) →
    z ≡ cast_signed u (cast_unsigned u l) → answer ≡ cast_unsigned w (cast_signed w (cast_unsigned w z)) →
    answer ≡ iextend_s (bits u) (bits w) number
unfolding wrap
extended_low u w number l z answer wider e f is =
    let low = and_mask number (bits u) in
    extended u w (bit_and number (2 ^ bits u - 1)) l z answer (rw low (mod-lt number (pow_pos (bits u)))) wider e f is ∙ ap (extend_s (bits u) (bits w)) low
