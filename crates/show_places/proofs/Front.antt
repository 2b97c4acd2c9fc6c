-- Where the front of a text ends.
use Rattle.std.proofs.Common.{◌≡◌, ◌∙◌, ◌<◌, ◌≤◌, ◌-◌, ℕ, zero, suc, List, length, take, true, false, sym, ap, subst, cond, arith, inl, inr}
use Rattle.std.proofs.lemmas.Bool.{cases_lt}
use Rattle.std.proofs.lemmas.Bool.Decides.{nat_tests}
use Rattle.std.specs.Fmt.{is_char_start}
use Rattle.std.specs.Fmt.Cut.{floor_char_boundary}
use Rattle.std.specs.Prelude.{nat_le}
use Rattle.std.specs.Str.{IsCharBoundary}
use Rattle.show_places.specs.Short.{front_of}

starts : (b : ℕ) → (128 ≤ b → 192 ≤ b) → is_char_start b ≡ true
starts b h = elim (cases_lt b 128) [
  | inl low ↦ grind (arith, nat_tests, low)
  | inr high ↦ let more : 192 ≤ b = h high in grind (arith, nat_tests, high, more)
]

continues : (b : ℕ) → ((128 ≤ b → 192 ≤ b) → ⊥) → is_char_start b ≡ false
continues b h = elim (cases_lt b 128) [
  | inl low ↦ absurd (h (λ high. omega (arith, low, high)))
  | inr high ↦ elim (cases_lt b 192) [
    | inl mid ↦ grind (arith, nat_tests, high, mid)
    | inr top ↦ absurd (h (λ _. top))
  ]
]

-- The last place at or below one where a character begins.
pub last_boundary : (bs : List ℕ) (i kept : ℕ) → i < length bs → kept ≤ i → IsCharBoundary bs kept
    → ((j : ℕ) → kept < j → j ≤ i → IsCharBoundary bs j → ⊥) → floor_char_boundary bs i ≡ kept
unfolding floor_char_boundary
last_boundary bs zero kept within le is last = omega (arith, le)
last_boundary bs (suc i) kept within le is last = elim (cases_lt kept (suc i)) [
  | inl below ↦ ap (λ t. cond t (suc i) (floor_char_boundary bs i)) (continues _ (λ h. last (suc i) below (omega arith) (omega (arith, within), λ _. h)))
      ∙ last_boundary bs i kept (omega (arith, within)) (omega (arith, below)) is (λ j p q. last j p (omega (arith, q)))
  | inr above ↦ let same : kept ≡ suc i = omega (arith, le, above) in
      ap (λ t. cond t (suc i) (floor_char_boundary bs i)) (starts _ ((subst (IsCharBoundary bs) same is).1 within)) ∙ sym same
]

-- What is cut there is the front.
pub cut_front : (text : List ℕ) (most kept : ℕ) → most < length text → floor_char_boundary text most ≡ kept
    → take (kept - 0) text ≡ front_of text most
cut_front text most kept long is =
    let test : nat_le (length text) most ≡ false = grind (arith, nat_tests, long) in
    let same : kept - 0 ≡ floor_char_boundary text most = omega (arith, is) in
    rw test (ap (λ (n : ℕ). take n text) same)
