-- What reading gives is the text of what fits, and each text of what fits is read again.
use Rattle.std.proofs.Common.{◌≡◌, ℕ, zero, suc, ◌+◌, ◌-◌, ◌*◌, ◌/◌, ◌%◌, ◌^◌, ◌<◌, ◌≤◌, Bool, true, false, cond, not}
use Rattle.std.proofs.Common.{List, [], ◌∷◌, ◌++◌, Option, Some, None, refl, sym, ap, subst, ◌∙◌, append_assoc, arith}
use Rattle.std.proofs.Common.{inl, inr, ◌⊎◌}
use Rattle.std.specs.Prelude.{nat_lt, nat_le, ◌==◌, pos, negsuc, ℤ}
use Rattle.std.specs.Fmt.{decimal, signed_decimal}
use Rattle.std.proofs.lemmas.Fmt.{decimal_step, decimal_digit, decimal_by_steps}
use Rattle.std.proofs.lemmas.Bool.{and_parts}
use Rattle.std.proofs.lemmas.Bool.Decides.{nat_tests}
use Rattle.replay_forms.specs.Reading.{◌>>=◌, Reader, after, is_digit, digits_after, number_at, number_within}
use Rattle.replay_forms.specs.Reading.{number_then, behind, both, made, word_for, first, or_else, positive, negative}
use Rattle.replay_forms.specs.Reading.{signed_then, FitsSigned64}

-- The text of a value in front of other bytes, and which values there are.
pub record Takes {A : Type 0} (text : A → List ℕ → List ℕ) (Fits : A → Type 0) (at : Reader A) : Type 0 where
  pub taken : (bytes : List ℕ) (x : A) (rest : List ℕ) → at bytes ≡ Some (x, rest) → (bytes ≡ text x rest) × Fits x

pub record Law {A : Type 0} (text : A → List ℕ → List ℕ) (Fits : A → Type 0) (at : Reader A) : Type 0 where
  pub takes : (bytes : List ℕ) (x : A) (rest : List ℕ) → at bytes ≡ Some (x, rest) → (bytes ≡ text x rest) × Fits x
  pub again : (x : A) (rest : List ℕ) → Fits x → at (text x rest) ≡ Some (x, rest)

-- ---- options

pub bind_some : {A B : Type 0} (o : Option A) (f : A → Option B) (y : B) → (o >>= f) ≡ Some y → (x : A) × (o ≡ Some x) × (f x ≡ Some y)
bind_some None f y e = absurd cc
bind_some (Some x) f y e = (x, refl, e)

pub only_some : {A : Type 0} (b : Bool) (o : Option A) (y : A) → cond b o None ≡ Some y → (b ≡ true) × (o ≡ Some y)
only_some true o y e = (refl, e)
only_some false o y e = absurd cc

pub chosen : {A : Type 0} (b : Bool) (x y z : A) → cond b x y ≡ z → ((b ≡ true) × (x ≡ z)) ⊎ ((b ≡ false) × (y ≡ z))
chosen true x y z e = inl (refl, e)
chosen false x y z e = inr (refl, e)

abbrev some : {A : Type 0} → A → Option A
some x = Some x

pub some_is : {A : Type 0} (x y : A) → some x ≡ some y → x ≡ y
some_is x y e = cc

abbrev pub gives : {A : Type 0} → A → List ℕ → Option (A × List ℕ)
gives x rest = Some (x, rest)

-- a fact of the value and the bytes behind it
pub move : {A : Type 0} (P : A → List ℕ → Type 0) (x y : A) (a b : List ℕ) → gives x a ≡ gives y b → P x a → P y b
move {A} P x y a b e h =
    let p : A × List ℕ = (x, a) in
    let q : A × List ℕ = (y, b) in
    subst (λ (t : A × List ℕ). P t.0 t.1) (some_is p q e) h

-- ---- words

pub after_takes : (word bytes rest : List ℕ) → after word bytes ≡ Some rest → bytes ≡ word ++ rest
unfolding after
after_takes [] bytes rest e = some_is bytes rest e
after_takes (w ∷ ws) [] rest e = absurd cc
after_takes (w ∷ ws) (b ∷ bytes) rest e =
    let p = only_some (w == b) (after ws bytes) rest e in
    let same : w ≡ b = grind (arith, nat_tests, p.0) in
    let tail = after_takes ws bytes rest p.1 in
    rw (same, tail) refl

pub after_again : (word rest : List ℕ) → after word (word ++ rest) ≡ Some rest
unfolding after
after_again [] rest = refl
after_again (w ∷ ws) rest =
    let same : (w == w) ≡ true = grind (arith, nat_tests) in
    rw same (after_again ws rest)

-- ---- numbers

digit_range : (c : ℕ) → is_digit c ≡ true → (48 ≤ c) × (c ≤ 57)
digit_range c e =
    let p = and_parts (nat_le 48 c) (nat_le c 57) e in
    (grind (arith, nat_tests, p.0), grind (arith, nat_tests, p.1))

digit_is : (c : ℕ) → 48 ≤ c → c ≤ 57 → is_digit c ≡ true
digit_is c l h =
    let a : nat_le 48 c ≡ true = grind (arith, nat_tests) in
    let b : nat_le c 57 ≡ true = grind (arith, nat_tests) in
    rw (a, b) refl

decimal_more : (n c : ℕ) → 0 < n → 48 ≤ c → c ≤ 57 → 10 * n + (c - 48) < 2 ^ 64 → decimal (10 * n + (c - 48)) ≡ decimal n ++ (c ∷ [])
decimal_more n c above low high fits =
    let front : (10 * n + (c - 48)) / 10 ≡ n = omega arith in
    let last : 48 + (10 * n + (c - 48)) % 10 ≡ c = omega arith in
    decimal_step (10 * n + (c - 48)) (omega arith) fits
    ∙ ap (λ (k : ℕ). decimal k ++ ((48 + (10 * n + (c - 48)) % 10) ∷ [])) front
    ∙ ap (λ (k : ℕ). decimal n ++ (k ∷ [])) last

digits_takes : (n : ℕ) (bytes : List ℕ) (m : ℕ) (rest : List ℕ) → 0 < n → n < 2 ^ 64
    → digits_after n bytes ≡ Some (m, rest) → decimal n ++ bytes ≡ decimal m ++ rest
unfolding digits_after
digits_takes n [] m rest above fits e = ap (λ (p : ℕ × List ℕ). decimal p.0 ++ p.1) (some_is (n, []) (m, rest) e)
digits_takes n (c ∷ cs) m rest above fits e =
    elim (chosen (is_digit c) (cond (nat_lt (10 * n + (c - 48)) (2 ^ 64)) (digits_after (10 * n + (c - 48)) cs) None) (Some (n, c ∷ cs)) (Some (m, rest)) e) [
      | inl t ↦
          let r = digit_range c t.0 in
          let p = only_some (nat_lt (10 * n + (c - 48)) (2 ^ 64)) (digits_after (10 * n + (c - 48)) cs) (m, rest) t.1 in
          let below : 10 * n + (c - 48) < 2 ^ 64 = grind (arith, nat_tests, p.0) in
          let more = digits_takes (10 * n + (c - 48)) cs m rest (omega arith) below p.1 in
          sym (append_assoc (decimal n) (c ∷ []) cs) ∙ ap (λ (t : List ℕ). t ++ cs) (sym (decimal_more n c above r.0 r.1 below)) ∙ more
      | inr t ↦ ap (λ (p : ℕ × List ℕ). decimal p.0 ++ p.1) (some_is (n, c ∷ cs) (m, rest) t.1)
    ]

number_takes : (bytes : List ℕ) (m : ℕ) (rest : List ℕ) → number_at bytes ≡ Some (m, rest) → bytes ≡ decimal m ++ rest
unfolding number_at
number_takes [] m rest e = absurd cc
number_takes (c ∷ cs) m rest e =
    elim (chosen (c == 48) (Some (0, cs)) (cond (is_digit c) (digits_after (c - 48) cs) None) (Some (m, rest)) e) [
      | inl t ↦
          let is : c ≡ 48 = grind (arith, nat_tests, t.0) in
          let zero_text : decimal 0 ≡ 48 ∷ [] = decimal_digit 0 (omega arith) in
          let all : c ∷ cs ≡ decimal 0 ++ cs = rw (zero_text, is) refl in
          all ∙ ap (λ (p : ℕ × List ℕ). decimal p.0 ++ p.1) (some_is (0, cs) (m, rest) t.1)
      | inr t ↦
          let p = only_some (is_digit c) (digits_after (c - 48) cs) (m, rest) t.1 in
          let r = digit_range c p.0 in
          let other : 48 < c = grind (arith, nat_tests, t.0, r.0) in
          let one : decimal (c - 48) ≡ (48 + (c - 48)) ∷ [] = decimal_digit (c - 48) (omega arith) in
          let back : 48 + (c - 48) ≡ c = omega arith in
          let text : decimal (c - 48) ≡ c ∷ [] = one ∙ ap (λ (k : ℕ). k ∷ []) back in
          ap (λ (t : List ℕ). t ++ cs) (sym text) ∙ digits_takes (c - 48) cs m rest (omega arith) (omega arith) p.1
    ]

-- bytes that begin with no digit
abbrev pub begins_plain : List ℕ → Bool
begins_plain [] = true
begins_plain (c ∷ cs) = not (is_digit c)

digits_stop : (n : ℕ) (rest : List ℕ) → begins_plain rest ≡ true → digits_after n rest ≡ Some (n, rest)
unfolding digits_after
digits_stop n [] e = refl
digits_stop n (c ∷ cs) e =
    let no_digit : is_digit c ≡ false = grind (arith, nat_tests, e) in
    rw no_digit refl

digits_on : (n c : ℕ) (rest : List ℕ) → 48 ≤ c → c ≤ 57 → 10 * n + (c - 48) < 2 ^ 64 → digits_after n (c ∷ rest) ≡ digits_after (10 * n + (c - 48)) rest
unfolding digits_after
digits_on n c rest low high fits =
    let d = digit_is c low high in
    let b : nat_lt (10 * n + (c - 48)) (2 ^ 64) ≡ true = grind (arith, nat_tests) in
    rw (d, b) refl

first_digit : (c : ℕ) (rest : List ℕ) → 48 < c → c ≤ 57 → number_at (c ∷ rest) ≡ digits_after (c - 48) rest
unfolding number_at
first_digit c rest low high =
    let z : (c == 48) ≡ false = grind (arith, nat_tests) in
    let d = digit_is c (omega arith) high in
    rw (z, d) refl

number_reads : (n : ℕ) → n < 2 ^ 64 → 0 < n → n < 2 ^ 64 → (rest : List ℕ) → number_at (decimal n ++ rest) ≡ digits_after n rest
number_reads =
    decimal_by_steps (λ n ds. 0 < n → n < 2 ^ 64 → (rest : List ℕ) → number_at (ds ++ rest) ≡ digits_after n rest)
    (λ n small above fits rest.
    let back : (48 + n) - 48 ≡ n = omega arith in
    first_digit (48 + n) rest (omega arith) (omega arith) ∙ ap (λ (k : ℕ). digits_after k rest) back)
    (λ n ds big so above fits rest.
    let c = 48 + n % 10 in
    let sum : 10 * (n / 10) + ((48 + n % 10) - 48) ≡ n = omega arith in
    ap number_at (append_assoc ds ((48 + n % 10) ∷ []) rest)
    ∙ so (omega arith) (omega arith) ((48 + n % 10) ∷ rest)
    ∙ digits_on (n / 10) (48 + n % 10) rest (omega arith) (omega arith) (omega arith)
    ∙ ap (λ (k : ℕ). digits_after k rest) sum)

number_zero : (rest : List ℕ) → number_at (decimal 0 ++ rest) ≡ Some (0, rest)
unfolding number_at
number_zero rest =
    let zero_text : decimal 0 ≡ 48 ∷ [] = decimal_digit 0 (omega arith) in
    rw zero_text refl

number_again : (n : ℕ) (rest : List ℕ) → n < 2 ^ 64 → begins_plain rest ≡ true → number_at (decimal n ++ rest) ≡ Some (n, rest)
number_again zero rest fits plain = number_zero rest
number_again (suc n) rest fits plain = number_reads (suc n) fits (omega arith) fits rest ∙ digits_stop (suc n) rest plain

pub within_takes : (max : ℕ) (bytes : List ℕ) (m : ℕ) (rest : List ℕ) → number_within max bytes ≡ Some (m, rest) → (bytes ≡ decimal m ++ rest) × (m ≤ max)
within_takes max bytes m rest e =
    let p = bind_some (number_at bytes) (λ n. cond (nat_le n.0 max) (Some n) None) (m, rest) e in
    let q = only_some (nat_le p.0.0 max) (Some p.0) (m, rest) p.2 in
    let le : p.0.0 ≤ max = grind (arith, nat_tests, q.0) in
    move (λ n r. (bytes ≡ decimal n ++ r) × (n ≤ max)) p.0.0 m p.0.1 rest q.1 (number_takes bytes p.0.0 p.0.1 p.1, le)

pub within_again : (max n : ℕ) (rest : List ℕ) → max < 2 ^ 64 → n ≤ max → begins_plain rest ≡ true → number_within max (decimal n ++ rest) ≡ Some (n, rest)
within_again max n rest fits le plain =
    let t : nat_le n max ≡ true = grind (arith, nat_tests) in
    rw (number_again n rest (omega arith) plain, t) refl

-- the text of a number and the word behind it
abbrev pub number_text : List ℕ → ℕ → List ℕ → List ℕ
number_text word n rest = decimal n ++ (word ++ rest)

pub number_law : (max : ℕ) (c : ℕ) (word : List ℕ) → max < 2 ^ 64 → not (is_digit c) ≡ true
    → Law (number_text (c ∷ word)) (λ n. n ≤ max) (number_then max (c ∷ word))
number_law max c word fits plain = record {
  takes = λ bytes x rest e.
      let p = bind_some (number_within max bytes) (λ n. after (c ∷ word) n.1 >>= λ r. Some (n.0, r)) (x, rest) e in
      let q = bind_some (after (c ∷ word) p.0.1) (λ r. Some (p.0.0, r)) (x, rest) p.2 in
      let w = within_takes max bytes p.0.0 p.0.1 p.1 in
      let a = after_takes (c ∷ word) p.0.1 q.0 q.1 in
      move (λ n r. (bytes ≡ decimal n ++ ((c ∷ word) ++ r)) × (n ≤ max)) p.0.0 x q.0 rest q.2 (w.0 ∙ ap (λ (t : List ℕ). decimal p.0.0 ++ t) a, w.1);
  again = λ x rest le. rw (within_again max x ((c ∷ word) ++ rest) fits le plain, after_again (c ∷ word) rest) refl;
}

-- ---- readers of readers

abbrev pub behind_text : {A : Type 0} → List ℕ → (A → List ℕ → List ℕ) → A → List ℕ → List ℕ
behind_text word text x rest = word ++ text x rest

pub behind_law : {A : Type 0} (word : List ℕ) (text : A → List ℕ → List ℕ) (Fits : A → Type 0) (at : Reader A)
    → Law text Fits at → Law (behind_text word text) Fits (behind word at)
behind_law word text Fits at l = record {
  takes = λ bytes x rest e.
      let p = bind_some (after word bytes) (λ r. at r) (x, rest) e in
      let t = l.takes p.0 x rest p.2 in
      (after_takes word bytes p.0 p.1 ∙ ap (λ (t : List ℕ). word ++ t) t.0, t.1);
  again = λ x rest e. rw (after_again word (text x rest)) (l.again x rest e);
}

abbrev pub both_text : {A B : Type 0} → (A → List ℕ → List ℕ) → (B → List ℕ → List ℕ) → A × B → List ℕ → List ℕ
both_text text uext x rest = text x.0 (uext x.1 rest)

pub both_law : {A B : Type 0} (text : A → List ℕ → List ℕ) (Fits : A → Type 0) (at : Reader A)
    (uext : B → List ℕ → List ℕ) (Gits : B → Type 0) (bt : Reader B) → Law text Fits at → Law uext Gits bt
    → Law (both_text text uext) (λ x. Fits x.0 × Gits x.1) (both at bt)
both_law {A} {B} text Fits at uext Gits bt l m = record {
  takes = λ bytes x rest e.
      let p = bind_some (at bytes) (λ x. bt x.1 >>= λ y. Some ((x.0, y.0), y.1)) (x, rest) e in
      let q = bind_some (bt p.0.1) (λ y. Some ((p.0.0, y.0), y.1)) (x, rest) p.2 in
      let t = l.takes bytes p.0.0 p.0.1 p.1 in
      let u = m.takes p.0.1 q.0.0 q.0.1 q.1 in
      move (λ (z : A × B) (r : List ℕ). (bytes ≡ text z.0 (uext z.1 r)) × (Fits z.0 × Gits z.1))
      (p.0.0, q.0.0) x q.0.1 rest q.2 (t.0 ∙ ap (text p.0.0) u.0, (t.1, u.1));
  again = λ x rest e. rw (l.again x.0 (uext x.1 rest) e.0, m.again x.1 rest e.1) refl;
}

pub made_takes : {A B : Type 0} (to : A → Option B) (text : A → List ℕ → List ℕ) (Fits : A → Type 0) (at : Reader A)
    (uext : B → List ℕ → List ℕ) (Gits : B → Type 0) → Law text Fits at
    → ((x : A) (y : B) (rest : List ℕ) → Fits x → to x ≡ Some y → (text x rest ≡ uext y rest) × Gits y)
    → Takes uext Gits (made to at)
made_takes {A} {B} to text Fits at uext Gits l there = record {
  taken = λ bytes y rest e.
      let p = bind_some (at bytes) (λ x. to x.0 >>= λ y. Some (y, x.1)) (y, rest) e in
      let q = bind_some (to p.0.0) (λ y. Some (y, p.0.1)) (y, rest) p.2 in
      let t = l.takes bytes p.0.0 p.0.1 p.1 in
      let u = there p.0.0 q.0 p.0.1 t.1 q.1 in
      move (λ (z : B) (r : List ℕ). (bytes ≡ uext z r) × Gits z) q.0 y p.0.1 rest q.2 (t.0 ∙ u.0, u.1);
}

pub made_again : {A B : Type 0} (to : A → Option B) (text : A → List ℕ → List ℕ) (Fits : A → Type 0) (at : Reader A)
    → Law text Fits at → (x : A) (y : B) (rest : List ℕ) → Fits x → to x ≡ Some y
    → made to at (text x rest) ≡ Some (y, rest)
made_again to text Fits at l x y rest f e = rw (l.again x rest f, e) refl

pub word_takes : {A : Type 0} (x : A) (word : List ℕ) (text : A → List ℕ → List ℕ) (Fits : A → Type 0)
    → ((rest : List ℕ) → word ++ rest ≡ text x rest) → Fits x → Takes text Fits (word_for x word)
word_takes {A} x word text Fits same fits = record {
  taken = λ bytes y rest e.
      let p = bind_some (after word bytes) (λ r. Some (x, r)) (y, rest) e in
      move (λ (z : A) (r : List ℕ). (bytes ≡ text z r) × Fits z) x y p.0 rest p.2 (after_takes word bytes p.0 p.1 ∙ same p.0, fits);
}

pub word_again : {A : Type 0} (x : A) (word rest : List ℕ) → word_for x word (word ++ rest) ≡ Some (x, rest)
word_again x word rest = rw (after_again word rest) refl

or_takes : {A : Type 0} (P : A → Type 0) (o p : Option A) (z : A) → (o ≡ Some z → P z) → (p ≡ Some z → P z) → or_else o p ≡ Some z → P z
or_takes P (Some x) p z f g e = f e
or_takes P None p z f g e = g e

pub first_takes : {A : Type 0} (text : A → List ℕ → List ℕ) (Fits : A → Type 0) (at bt : Reader A)
    → Takes text Fits at → Takes text Fits bt → Takes text Fits (first at bt)
first_takes {A} text Fits at bt l m = record {
  taken = λ bytes x rest e.
      or_takes (λ (z : A × List ℕ). (bytes ≡ text z.0 z.1) × Fits z.0) (at bytes) (bt bytes) (x, rest)
      (λ h. l.taken bytes x rest h) (λ h. m.taken bytes x rest h) e;
}

pub first_again : {A : Type 0} (at bt : Reader A) (bytes : List ℕ) (z : A × List ℕ) → at bytes ≡ Some z → first at bt bytes ≡ Some z
first_again at bt bytes z e = rw e refl

pub second_again : {A : Type 0} (at bt : Reader A) (bytes : List ℕ) (z : A × List ℕ) → at bytes ≡ None → bt bytes ≡ Some z → first at bt bytes ≡ Some z
second_again at bt bytes z n e = rw (n, e) refl

pub law_from : {A : Type 0} (text : A → List ℕ → List ℕ) (Fits : A → Type 0) (at : Reader A) → Takes text Fits at
    → ((x : A) (rest : List ℕ) → Fits x → at (text x rest) ≡ Some (x, rest)) → Law text Fits at
law_from text Fits at l again = record { takes = l.taken; again = again }

pub takes_from : {A : Type 0} (text : A → List ℕ → List ℕ) (Fits : A → Type 0) (at : Reader A) → Law text Fits at → Takes text Fits at
takes_from text Fits at l = record { taken = l.takes }

-- no text begins another, and no two values have one text
pub one_value : {A : Type 0} (text : A → List ℕ → List ℕ) (Fits : A → Type 0) (at : Reader A) → Law text Fits at
    → (x y : A) (r s : List ℕ) → Fits x → Fits y → text x r ≡ text y s → (x ≡ y) × (r ≡ s)
one_value {A} text Fits at l x y r s p q e =
    let h = some_is (x, r) (y, s) (sym (l.again x r p) ∙ ap at e ∙ l.again y s q) in
    (ap (λ (t : A × List ℕ). t.0) h, ap (λ (t : A × List ℕ). t.1) h)

-- ---- signed numbers

abbrev pub signed_text : List ℕ → ℤ → List ℕ → List ℕ
signed_text word z rest = signed_decimal z ++ (word ++ rest)

positive_there : (word : List ℕ) (n : ℕ) (z : ℤ) (rest : List ℕ) → n ≤ 2 ^ 63 - 1 → positive n ≡ Some z
    → (number_text word n rest ≡ signed_text word z rest) × FitsSigned64 z
positive_there word n z rest fits e = subst (λ (y : ℤ). (number_text word n rest ≡ signed_text word y rest) × FitsSigned64 y) (some_is (pos n) z e) (refl, fits)

negative_there : (word : List ℕ) (n : ℕ) (z : ℤ) (rest : List ℕ) → n ≤ 2 ^ 63 → negative n ≡ Some z
    → (behind_text (45 ∷ []) (number_text word) n rest ≡ signed_text word z rest) × FitsSigned64 z
negative_there word zero z rest fits e = absurd cc
negative_there word (suc n) z rest fits e =
    subst (λ (y : ℤ). (behind_text (45 ∷ []) (number_text word) (suc n) rest ≡ signed_text word y rest)
    × FitsSigned64 y) (some_is (negsuc n) z e) (refl, fits)

no_minus : (rest : List ℕ) → number_at (45 ∷ rest) ≡ None
unfolding number_at
no_minus rest = refl

signed_again : (c : ℕ) (word : List ℕ) → not (is_digit c) ≡ true → (z : ℤ) (rest : List ℕ) → FitsSigned64 z
    → signed_then (c ∷ word) (signed_text (c ∷ word) z rest) ≡ Some (z, rest)
signed_again c word plain (pos n) rest fits = first_again (made positive (number_then (2 ^ 63 - 1) (c ∷ word)))
    (made negative (behind (45 ∷ []) (number_then (2 ^ 63) (c ∷ word)))) _ _
    (made_again positive _ _ _ (number_law (2 ^ 63 - 1) c word (omega arith) plain) n (pos n) rest fits refl)
signed_again c word plain (negsuc n) rest fits = second_again (made positive (number_then (2 ^ 63 - 1) (c ∷ word)))
    (made negative (behind (45 ∷ []) (number_then (2 ^ 63) (c ∷ word)))) _ _
    (rw (no_minus (decimal (suc n) ++ ((c ∷ word) ++ rest))) refl)
    (made_again negative _ _ _ (behind_law (45 ∷ []) _ _ _ (number_law (2 ^ 63) c word (omega arith) plain)) (suc n)
    (negsuc n) rest fits refl)

pub signed_law : (c : ℕ) (word : List ℕ) → not (is_digit c) ≡ true → Law (signed_text (c ∷ word)) FitsSigned64 (signed_then (c ∷ word))
signed_law c word plain = law_from _ _ _ (first_takes _ _ _ _
    (made_takes positive _ _ _ _ _ (number_law (2 ^ 63 - 1) c word (omega arith) plain) (positive_there (c ∷ word)))
    (made_takes negative _ _ _ _ _ (behind_law (45 ∷ []) _ _ _ (number_law (2 ^ 63) c word (omega arith) plain)) (negative_there (c ∷ word))))
    (signed_again c word plain)
