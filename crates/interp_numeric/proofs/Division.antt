-- Signed quotients and remainders, and where a quotient doesn't fit.
use Rattle.std.proofs.Common.{◌≡◌, ◌≢◌, ℕ, zero, suc, ◌+◌, ◌*◌, ◌/◌, ◌%◌, ◌^◌, ◌<◌, ◌≤◌, ◌⊎◌, inl, inr, true, false, Ok, Err, refl, sym, ap, ◌∙◌, subst, arith}
use Rattle.std.specs.Prelude.{SomeIff, Some, cond, nat_eq, ℤ, pos, negsuc, neg_ℤ, ◌-ℤ◌, ◌*ℤ◌, int_div, int_rem, FitsSigned}
use Rattle.std.specs.Int.{Width, cast_signed, cast_unsigned, CanDivide}
use Rattle.std.specs.Int.Signed.{mag, mag_rem}
use Rattle.std.specs.Ordering.{int_eq}
use Rattle.std.proofs.lemmas.Int.{ints, quot-rem, of_z-to_z, to_z-of_z}
use Rattle.std.proofs.lemmas.Bool.{cases_lt}
use Rattle.std.proofs.lemmas.Bool.Decides.{nat_tests}
use Rattle.std.proofs.lemmas.Nat.{pow_pos}
use Rattle.std.proofs.Math.Nat.{div-le_self, div-mul-le_self}
use Rattle.std.proofs.Math.IntN.{*ℤ_comm}
use borrow.Author.Gap.{read_sfits}
use mir.Val.{bits, hbits}
use Rattle.types.specs.declared.outcome.Trap.TheVariants as traps
use Rattle.interp_numeric.specs.Integers.{idiv_u, idiv_s, irem_u, irem_s}
use Rattle.interp_numeric.proofs.Signs.{half, signed-is, unsigned-is, passed}

-- a number that fits isn't the least one that is too large
not_too_large : (z : ℤ) (size : ℕ) → mag z < size → int_eq z (pos size) ≡ false
not_too_large (pos n) size h = grind (arith, nat_tests)
not_too_large (negsuc n) size h = refl

too_large : (size : ℕ) → int_eq (pos size) (pos size) ≡ true
too_large size = grind (arith, nat_tests)

mag-neg : (n size : ℕ) → n ≤ size → 0 < size → mag (neg_ℤ (pos n)) < size
mag-neg zero size h some = some
mag-neg (suc n) size h some = omega arith

-- a quotient fits, or it is the first number that is too large, and then nothing remains
quotient_cases : (size : ℕ) (l d : ℤ) → 0 < size → mag l < size → (mag (int_div l d) < size) ⊎ ((int_div l d ≡ pos size) × (int_rem l d ≡ pos 0))
quotient_cases size (pos a) (pos b) some h = inl (let q = div-le_self a b in omega arith)
quotient_cases size (pos a) (negsuc b) some h = inl (mag-neg (a / suc b) size (let q = div-le_self a (suc b) in omega arith) some)
quotient_cases size (negsuc a) (pos b) some h = inl (mag-neg (suc a / b) size (let q = div-le_self (suc a) b in omega arith) some)
quotient_cases size (negsuc a) (negsuc zero) some h =
    let whole : suc a / 1 ≡ suc a = omega arith in
    let none : suc a % 1 ≡ 0 = omega arith in
    elim (cases_lt (suc a) size) [
      | inl less ↦ inl (rw whole less)
      | inr more ↦ inr (ap pos (let e : suc a / 1 ≡ size = omega arith in e), ap (λ r. neg_ℤ (pos r)) none)
    ]
quotient_cases size (negsuc a) (negsuc (suc b)) some h = inl (smaller (suc a / suc (suc b)) (div-mul-le_self (suc a) (suc (suc b))))
  where
    smaller : (q : ℕ) → q * suc (suc b) ≤ suc a → q < size
    smaller q m = let e : q * suc (suc b) ≡ q * b + q * 2 = omega arith in omega arith

remainder-is : (l d : ℤ) → l -ℤ d *ℤ int_div l d ≡ int_rem l d
remainder-is l d = let e = quot-rem l d in let f = *ℤ_comm d (int_div l d) in rw f (omega (arith, ints))

pub idiv_s-zero : (N i j : ℕ) → j ≡ 0 → idiv_s N i j ≡ Err traps.DivideByZero
unfolding idiv_s
idiv_s-zero N i j z = rw z refl

pub irem_s-zero : (N i j : ℕ) → j ≡ 0 → irem_s N i j ≡ Err traps.DivideByZero
unfolding irem_s
irem_s-zero N i j z = rw z refl

not_zero : (j : ℕ) → j ≢ 0 → nat_eq j 0 ≡ false
not_zero j h = grind (arith, nat_tests)

-- the quotient by the machine's signed type
idiv_s-is : (w : Width) (i j : ℕ) → i < 2 ^ bits w → j < 2 ^ bits w → j ≢ 0
    → idiv_s (bits w) i j ≡ cond (int_eq (int_div (cast_signed w i) (cast_signed w j)) (pos (2 ^ hbits w)))
    (Err traps.IntegerOverflow) (Ok (cast_unsigned w (int_div (cast_signed w i) (cast_signed w j))))
unfolding idiv_s
idiv_s-is w i j p q some = rw (not_zero j some, signed-is w i p, signed-is w j q, half w, unsigned-is w (int_div (cast_signed w i) (cast_signed w j))) refl

irem_s-is : (w : Width) (i j : ℕ) → i < 2 ^ bits w → j < 2 ^ bits w → j ≢ 0
    → irem_s (bits w) i j ≡ Ok (cast_unsigned w (int_rem (cast_signed w i) (cast_signed w j)))
unfolding irem_s
irem_s-is w i j p q some = rw (
  not_zero j some,
  signed-is w i p,
  signed-is w j q,
  remainder-is (cast_signed w i) (cast_signed w j),
  unsigned-is w (int_rem (cast_signed w i) (cast_signed w j)),
) refl

-- what the machine's type can divide, or not
divided_cases : (w : Width) (i j : ℕ) → j < 2 ^ bits w → j ≢ 0 → CanDivide w (cast_signed w i) (cast_signed w j)
    ⊎ ((int_div (cast_signed w i) (cast_signed w j) ≡ pos (2 ^ hbits w))
    × (int_rem (cast_signed w i) (cast_signed w j) ≡ pos 0))
divided_cases w i j q some =
    let s = read_sfits w i in
    let back = of_z-to_z w j q in
    let positive : 0 < j = omega arith in
    elim (quotient_cases (2 ^ hbits w) (cast_signed w i) (cast_signed w j) (pow_pos (hbits w)) s.sfits) [
      | inl fits ↦ inl (rw back positive, record { sfits = fits })
      | inr over ↦ inr over
    ]

pub idiv_s-fits : (w : Width) (i j : ℕ) → i < 2 ^ bits w → j < 2 ^ bits w → j ≢ 0
    → CanDivide w (cast_signed w i) (cast_signed w j)
    → idiv_s (bits w) i j ≡ Ok (cast_unsigned w (int_div (cast_signed w i) (cast_signed w j)))
idiv_s-fits w i j p q some can =
    let f = can.1 in
    idiv_s-is w i j p q some ∙ rw (not_too_large (int_div (cast_signed w i) (cast_signed w j)) (2 ^ hbits w) f.sfits) refl

pub idiv_s-over : (w : Width) (i j : ℕ) → i < 2 ^ bits w → j < 2 ^ bits w → j ≢ 0
    → ¬ (CanDivide w (cast_signed w i) (cast_signed w j)) → idiv_s (bits w) i j ≡ Err traps.IntegerOverflow
idiv_s-over w i j p q some cannot = elim (divided_cases w i j q some) [
  | inl can ↦ absurd (cannot can)
  | inr over ↦ idiv_s-is w i j p q some ∙ rw (over.0, too_large (2 ^ hbits w)) refl
]

pub irem_s-fits : (w : Width) (i j : ℕ) → i < 2 ^ bits w → j < 2 ^ bits w → j ≢ 0
    → irem_s (bits w) i j ≡ Ok (cast_unsigned w (int_rem (cast_signed w i) (cast_signed w j)))
irem_s-fits w i j p q some = irem_s-is w i j p q some

pub irem_s-over : (w : Width) (i j : ℕ) → i < 2 ^ bits w → j < 2 ^ bits w → j ≢ 0
    → ¬ (CanDivide w (cast_signed w i) (cast_signed w j)) → irem_s (bits w) i j ≡ Ok 0
irem_s-over w i j p q some cannot = elim (divided_cases w i j q some) [
  | inl can ↦ absurd (cannot can)
  | inr over ↦ irem_s-is w i j p q some ∙ rw over.1 refl
]

pub idiv_u-zero : (N i j : ℕ) → j ≡ 0 → idiv_u N i j ≡ Err traps.DivideByZero
unfolding idiv_u
idiv_u-zero N i j z = rw z refl

pub idiv_u-some : (N i j : ℕ) → 0 < j → idiv_u N i j ≡ Ok (i / j)
unfolding idiv_u
idiv_u-some N i j some = rw (not_zero j (omega arith)) refl

pub irem_u-zero : (N i j : ℕ) → j ≡ 0 → irem_u N i j ≡ Err traps.DivideByZero
unfolding irem_u
irem_u-zero N i j z = rw z refl

pub irem_u-some : (N i j : ℕ) → 0 < j → irem_u N i j ≡ Ok (i % j)
unfolding irem_u
irem_u-some N i j some = rw (not_zero j (omega arith)) (ap Ok (omega arith))

-- ---- as the machine's calls answer: l and d are the signed readings, passed as arguments

pub quotient_given : (w : Width) (i j : ℕ) (l d q : ℤ) (r : ℕ) → i < 2 ^ bits w → j < 2 ^ bits w → j ≢ 0
    → l ≡ cast_signed w i → d ≡ cast_signed w j
    → SomeIff (Some q) (CanDivide w (cast_signed w (cast_unsigned w l)) (cast_signed w (cast_unsigned w d)))
    (int_div (cast_signed w (cast_unsigned w l)) (cast_signed w (cast_unsigned w d)))
    → r ≡ cast_unsigned w (cast_signed w (cast_unsigned w q)) → Ok r ≡ idiv_s (bits w) i j
quotient_given w i j l d q r p q_fits some e f can is =
    let el = passed w i l p e in
    let ed = passed w j d q_fits f in
    let both : SomeIff (Some q) (CanDivide w (cast_signed w i) (cast_signed w j)) (int_div (cast_signed w i) (cast_signed w j)) = rw (el, ed) at can in
    let fits = both.0.1 in
    let value : cast_unsigned w (cast_signed w (cast_unsigned w q)) ≡ cast_unsigned w q = ap (cast_unsigned w)
    (to_z-of_z w q (subst (FitsSigned w) (sym both.1) fits)) in
    sym (idiv_s-fits w i j p q_fits some both.0 ∙ ap Ok (ap (cast_unsigned w) (sym both.1) ∙ sym (is ∙ value)))

pub quotient_refused : (w : Width) (i j : ℕ) (l d : ℤ) → i < 2 ^ bits w → j < 2 ^ bits w → j ≢ 0
    → l ≡ cast_signed w i → d ≡ cast_signed w j
    → ¬ (CanDivide w (cast_signed w (cast_unsigned w l)) (cast_signed w (cast_unsigned w d)))
    → Err traps.IntegerOverflow ≡ idiv_s (bits w) i j
quotient_refused w i j l d p q some e f cannot =
    let el = passed w i l p e in
    let ed = passed w j d q f in
    sym (idiv_s-over w i j p q some (rw (el, ed) at cannot))

pub remainder_given : (w : Width) (i j : ℕ) (l d m : ℤ) (r : ℕ) → i < 2 ^ bits w → j < 2 ^ bits w → j ≢ 0
    → l ≡ cast_signed w i → d ≡ cast_signed w j
    → SomeIff (Some m) (CanDivide w (cast_signed w (cast_unsigned w l)) (cast_signed w (cast_unsigned w d)))
    (int_rem (cast_signed w (cast_unsigned w l)) (cast_signed w (cast_unsigned w d)))
    → r ≡ cast_unsigned w (cast_signed w (cast_unsigned w m)) → Ok r ≡ irem_s (bits w) i j
remainder_given w i j l d m r p q some e f can is =
    let el = passed w i l p e in
    let ed = passed w j d q f in
    let both : SomeIff (Some m) (CanDivide w (cast_signed w i) (cast_signed w j)) (int_rem (cast_signed w i) (cast_signed w j)) = rw (el, ed) at can in
    let s = read_sfits w i in
    let less = mag_rem (cast_signed w i) (cast_signed w j) in
    let fits : FitsSigned w (int_rem (cast_signed w i) (cast_signed w j)) = record { sfits = let t = s.sfits in omega arith } in
    let value : cast_unsigned w (cast_signed w (cast_unsigned w m)) ≡ cast_unsigned w m = ap (cast_unsigned w)
    (to_z-of_z w m (subst (FitsSigned w) (sym both.1) fits)) in
    sym (irem_s-fits w i j p q some ∙ ap Ok (ap (cast_unsigned w) (sym both.1) ∙ sym (is ∙ value)))

pub remainder_refused : (w : Width) (i j : ℕ) (l d : ℤ) → i < 2 ^ bits w → j < 2 ^ bits w → j ≢ 0
    → l ≡ cast_signed w i → d ≡ cast_signed w j
    → ¬ (CanDivide w (cast_signed w (cast_unsigned w l)) (cast_signed w (cast_unsigned w d)))
    → Ok 0 ≡ irem_s (bits w) i j
remainder_refused w i j l d p q some e f cannot =
    let el = passed w i l p e in
    let ed = passed w j d q f in
    sym (irem_s-over w i j p q some (rw (el, ed) at cannot))
