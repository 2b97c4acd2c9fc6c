-- Bytes by two digits of base 16.
use Rattle.std.proofs.Common.{◌≡◌, ℕ, ◌+◌, ◌-◌, ◌*◌, ◌/◌, ◌%◌, ◌<◌, ◌≤◌, true, false, cond, List, [], ◌∷◌, Some, None}
use Rattle.std.proofs.Common.{refl, ap, ◌∙◌, arith, inl, inr, ◌⊎◌, ◌&&◌}
use Rattle.std.specs.Prelude.{nat_lt, nat_le}
use Rattle.std.proofs.lemmas.Bool.{cases_lt}
use Rattle.std.proofs.lemmas.Bool.Decides.{nat_tests}
use Rattle.replay_forms.specs.Reading.{◌>>=◌, is_digit, hex_value, hex_byte_at}
use Rattle.replay_forms.specs.Texts.{hex_digit}
use Rattle.replay_forms.proofs.Laws.{bind_some, chosen, only_some, some_is, move}

low_digit : (n : ℕ) → n < 10 → hex_digit n ≡ 48 + n
low_digit n lt = let t : nat_lt n 10 ≡ true = grind (arith, nat_tests) in rw t refl

high_digit : (n : ℕ) → 10 ≤ n → hex_digit n ≡ 87 + n
high_digit n le = let t : nat_lt n 10 ≡ false = grind (arith, nat_tests) in rw t refl

hex_value_is : (c n : ℕ) → hex_value c ≡ Some n → (c ≡ hex_digit n) × (n ≤ 15)
hex_value_is c n e =
    elim (chosen (is_digit c) (Some (c - 48)) (cond (nat_le 97 c && nat_le c 102) (Some (c - 87)) None) (Some n) e) [
      | inl t ↦
          let s : c - 48 ≡ n = some_is (c - 48) n t.1 in
          let l : 48 ≤ c = grind (arith, nat_tests, t.0) in
          let h : c ≤ 57 = grind (arith, nat_tests, t.0) in
          let d : hex_digit n ≡ 48 + n = low_digit n (omega arith) in
          (omega arith, omega arith)
      | inr t ↦
          let p = only_some (nat_le 97 c && nat_le c 102) (Some (c - 87)) n t.1 in
          let s : c - 87 ≡ n = some_is (c - 87) n p.1 in
          let l : 97 ≤ c = grind (arith, nat_tests, p.0) in
          let h : c ≤ 102 = grind (arith, nat_tests, p.0) in
          let d : hex_digit n ≡ 87 + n = high_digit n (omega arith) in
          (omega arith, omega arith)
    ]

digit_value : (c : ℕ) → 48 ≤ c → c ≤ 57 → hex_value c ≡ Some (c - 48)
digit_value c l h = let t : is_digit c ≡ true = grind (arith, nat_tests) in rw t refl

letter_value : (c : ℕ) → 97 ≤ c → c ≤ 102 → hex_value c ≡ Some (c - 87)
letter_value c l h =
    let t : is_digit c ≡ false = grind (arith, nat_tests) in
    let u : (nat_le 97 c && nat_le c 102) ≡ true = grind (arith, nat_tests) in
    rw (t, u) refl

hex_back : (n : ℕ) → (n < 10) ⊎ (10 ≤ n) → n ≤ 15 → hex_value (hex_digit n) ≡ Some n
hex_back n (inl lt) le =
    let back : 48 + n - 48 ≡ n = omega arith in
    ap hex_value (low_digit n lt) ∙ digit_value (48 + n) (omega arith) (omega arith) ∙ ap (λ (k : ℕ). Some k) back
hex_back n (inr ge) le =
    let back : 87 + n - 87 ≡ n = omega arith in
    ap hex_value (high_digit n ge) ∙ letter_value (87 + n) (omega arith) (omega arith) ∙ ap (λ (k : ℕ). Some k) back

abbrev pub hex_byte_text : ℕ → List ℕ → List ℕ
hex_byte_text b rest = hex_digit (b / 16) ∷ hex_digit (b % 16) ∷ rest

two_digits : (c d high low : ℕ) (bytes : List ℕ) → c ≡ hex_digit high → d ≡ hex_digit low → high ≤ 15 → low ≤ 15
    → (c ∷ d ∷ bytes ≡ hex_byte_text (16 * high + low) bytes) × (16 * high + low ≤ 255)
two_digits c d high low bytes p q h l =
    let front : (16 * high + low) / 16 ≡ high = omega arith in
    let back : (16 * high + low) % 16 ≡ low = omega arith in
    (rw (front, back, p, q) refl, omega arith)

pub hex_takes : (i : ℕ) (bytes : List ℕ) (x : ℕ) (rest : List ℕ) → hex_byte_at bytes ≡ Some (x, rest) → (bytes ≡ hex_byte_text x rest) × (x ≤ 255)
hex_takes i [] x rest e = absurd cc
hex_takes i (c ∷ []) x rest e = absurd cc
hex_takes i (c ∷ d ∷ bytes) x rest e =
    let p = bind_some (hex_value c) (λ high. hex_value d >>= λ low. Some (16 * high + low, bytes)) (x, rest) e in
    let q = bind_some (hex_value d) (λ low. Some (16 * p.0 + low, bytes)) (x, rest) p.2 in
    let u = hex_value_is c p.0 p.1 in
    let v = hex_value_is d q.0 q.1 in
    move (λ n r. (c ∷ d ∷ bytes ≡ hex_byte_text n r) × (n ≤ 255)) (16 * p.0 + q.0) x bytes rest q.2 (two_digits c d p.0 q.0 bytes u.0 v.0 u.1 v.1)

small_or_not : (n : ℕ) → (n < 10) ⊎ (10 ≤ n)
small_or_not n = cases_lt n 10

pub hex_again : (x : ℕ) (rest : List ℕ) → x ≤ 255 → hex_byte_at (hex_byte_text x rest) ≡ Some (x, rest)
hex_again x rest le =
    let high = hex_back (x / 16) (small_or_not (x / 16)) (omega arith) in
    let low = hex_back (x % 16) (small_or_not (x % 16)) (omega arith) in
    let sum : 16 * (x / 16) + x % 16 ≡ x = omega arith in
    rw (high, low, sum) refl

above : (n : ℕ) → (n < 10) ⊎ (10 ≤ n) → 48 ≤ hex_digit n
above n (inl lt) = rw (low_digit n lt) (omega arith)
above n (inr ge) = rw (high_digit n ge) (omega arith)

pub hex_is_digit : (n : ℕ) → 48 ≤ hex_digit n
hex_is_digit n = above n (small_or_not n)
