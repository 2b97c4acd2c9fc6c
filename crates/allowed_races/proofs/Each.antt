-- Each of so many bytes.
use Rattle.std.specs.Prelude.{◌≡◌, ◌⊎◌, ◌+◌, ◌<◌, ◌≤◌, ◌&&◌, nat_lt, ℕ, zero, suc, Bool, true, false, refl}
use Rattle.std.proofs.Common.{subst, ◌∙◌, ap, inl, inr, arith}
use Rattle.std.proofs.lemmas.Bool.{cases_lt}
use Rattle.allowed_races.specs.declared.allowed.Allowed.{Allowed}
use Rattle.allowed_races.specs.Bytes.{has_byte, has_each, has_bytes}

-- one more
pub each-more : (a : Allowed) (addr width : ℕ) → has_byte a (addr + width) ≡ true → has_each a addr width ≡ true → has_each a addr (width + 1) ≡ true
each-more a addr width here each =
    let next : suc width ≡ width + 1 = omega arith in
    subst (λ w. has_each a addr w ≡ true) next (ap (λ t. t && has_each a addr width) here ∙ each)

and-false : (t : Bool) → (t && false) ≡ false
and-false true = refl
and-false false = refl

-- one that isn't allowed
pub each-not : (a : Allowed) (addr width at : ℕ) → at < width → has_byte a (addr + at) ≡ false → has_each a addr width ≡ false
each-not a addr zero at h not = absurd (omega (arith, h))
each-not a addr (suc width) at h not = by (cases_lt at width) (λ low. each-not a addr width at low not)
  where
    by : (at < width) ⊎ (width ≤ at) → (at < width → has_each a addr width ≡ false) → (has_byte a (addr + width) && has_each a addr width) ≡ false
    by (inl low) below = ap (λ t. has_byte a (addr + width) && t) (below low) ∙ and-false (has_byte a (addr + width))
    by (inr high) below =
        let same : at ≡ width = omega (arith, h, high) in
        ap (λ t. t && has_each a addr width) (subst (λ n. has_byte a (addr + n) ≡ false) same not)

pub bytes-not : (a : Allowed) (addr width at : ℕ) → at < width → has_byte a (addr + at) ≡ false → has_bytes a addr width ≡ false
bytes-not a addr width at h not = ap (λ t. nat_lt 0 width && t) (each-not a addr width at h not) ∙ and-false (nat_lt 0 width)
