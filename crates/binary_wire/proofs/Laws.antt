-- What reading gives is what the bytes spell, and the other way round.
use Rattle.std.proofs.Common.{◌≡◌, ℕ, zero, suc, ◌+◌, ◌-◌, ◌*◌, ◌/◌, ◌≤◌, Bool, true, false, cond, ltb, eqb, List, []}
use Rattle.std.proofs.Common.{◌∷◌, ◌++◌, length, take, drop, Option, Some, None, Result, Ok, Err, refl, sym, ap, subst, arith, inl}
use Rattle.std.proofs.Common.{inr, ◌⊎◌}
use Rattle.std.proofs.lemmas.Bool.{cases_lt, ltb-false, le-ltb, ltb-true, lt-ltb, eqb-true}
use Rattle.std.proofs.lemmas.List.{take_at, drop_at, take-append-drop, length-append, length-take}
use Rattle.binary_wire.specs.declared.bounds.Bounds.{Bounds}
use Rattle.binary_wire.specs.declared.fault.Fault.{Fault}
use Rattle.binary_wire.specs.declared.fault.Fault.TheVariants as kinds
use Rattle.binary_wire.specs.declared.fault.Refusal.{Refusal}
use Rattle.binary_wire.specs.Faults.{refusal, offset_of, refused, missing, inside}
use Rattle.binary_wire.specs.Reading.{Reading, ◌>>=◌, some_or, tag_at, unsigned_at, signed_at, s32_at, s64_at, u32_at}
use Rattle.binary_wire.specs.Reading.{u32_within_at, slice_at, block_at, name_at, sized_at, items_at, vector_at}
use Rattle.binary_wire.specs.Reading.{end_at}
use Rattle.binary_wire.specs.Grammar.{Spelling, IsUnsigned, IsSigned, IsS32, IsS64, IsU32, IsU32Within, IsBlock, IsName, IsSized, IsItems, IsVector}
use Rattle.std.specs.Str.{is_utf8}

-- A reading takes the bytes apart as the grammar puts them together, and leaves no more than there was.
pub record Law {A : Type 0} (P : Spelling A) (at : Reading A) : Type 0 where
  pub takes : (s : Bounds) (bytes : List ℕ) (x : A) (rest : List ℕ) → at s bytes ≡ Ok (x, rest) → P bytes x rest
  pub again : (s : Bounds) (bytes : List ℕ) (x : A) (rest : List ℕ) → P bytes x rest → at s bytes ≡ Ok (x, rest)
  pub within : (bytes : List ℕ) (x : A) (rest : List ℕ) → P bytes x rest → length rest ≤ length bytes

abbrev pub good : {A : Type 0} → A → Result A Refusal
good x = Ok x

abbrev pub bad : {A : Type 0} → Refusal → Result A Refusal
bad e = Err e

pub unless_ok : {A : Type 0} (b : Bool) (e : Refusal) (p : Result A Refusal) (y : A) → cond b (Err e) p ≡ Ok y → (b ≡ false) × (p ≡ Ok y)
unless_ok true e p y h = absurd cc
unless_ok false e p y h = (refl, h)

pub when_ok : {A : Type 0} (b : Bool) (p : Result A Refusal) (e : Refusal) (y : A) → cond b p (Err e) ≡ Ok y → (b ≡ true) × (p ≡ Ok y)
when_ok true p e y h = (refl, h)
when_ok false p e y h = absurd cc

pub either_ok : {A : Type 0} (b : Bool) (x y z : Result A Refusal) → cond b x y ≡ z → ((b ≡ true) × (x ≡ z)) ⊎ ((b ≡ false) × (y ≡ z))
either_ok true x y z e = inl (refl, e)
either_ok false x y z e = inr (refl, e)

pub good_is : {A : Type 0} (x y : A) → good x ≡ good y → x ≡ y
good_is x y e = cc

abbrev pub gives : {A : Type 0} → A → List ℕ → Result (A × List ℕ) Refusal
gives x rest = Ok (x, rest)

pub good_pair : {A : Type 0} (x y : A) (a b : List ℕ) → gives x a ≡ gives y b → (y ≡ x) × (b ≡ a)
good_pair {A} x y a b e =
    let p : A × List ℕ = (x, a) in
    let q : A × List ℕ = (y, b) in
    let s = good_is p q e in
    (ap (λ (t : A × List ℕ). t.0) (sym s), ap (λ (t : A × List ℕ). t.1) (sym s))

-- the value of a step, under names of its own
pub bind_case : {A B : Type 0} {G : Type 0} (r : Result (A × List ℕ) Refusal) (f : A × List ℕ → Result B Refusal) (y : B)
    → (r >>= f) ≡ Ok y → ((x : A) (mid : List ℕ) → gives x mid ≡ r → f (x, mid) ≡ Ok y → G) → G
bind_case (Ok x) f y e go = go x.0 x.1 refl e
bind_case (Err x) f y e go = absurd cc

pub take_is : {A : Type 0} (P : A → List ℕ → Type 0) (x y : A) (a b : List ℕ) → gives x a ≡ gives y b → P x a → P y b
take_is {A} P x y a b e h =
    let p : A × List ℕ = (x, a) in
    let q : A × List ℕ = (y, b) in
    subst (λ (t : A × List ℕ). P t.0 t.1) (good_is p q e) h

pub end_case : {A : Type 0} (s : Bounds) (left : List ℕ) (r : Result A Refusal) (y : A)
    → (end_at s left >>= λ whole. r) ≡ Ok y → (left ≡ []) × (r ≡ Ok y)
end_case s [] r y e = (refl, e)
end_case s (b ∷ left) r y e = absurd cc

-- ---- numbers

pub unsigned_takes : (top first : ℕ) (s : Bounds) (bytes : List ℕ) (n : ℕ) (rest : List ℕ)
    → unsigned_at top first s bytes ≡ Ok (n, rest) → IsUnsigned top bytes n rest
unfolding unsigned_at
unsigned_takes top first s [] n rest e = absurd cc
unsigned_takes top first s (b ∷ bytes) n rest e =
    elim (cases_lt b 128) [
      | inl lt ↦
          let t = unless_ok (ltb top b) (refusal kinds.Number first) (gives b bytes) (n, rest) (rw (lt-ltb b 128 lt) at e) in
          let p = good_pair b n bytes rest t.1 in
          inl (lt, ltb-false _ _ t.0, p.0, p.1)
      | inr le ↦
          let t = when_ok (ltb 127 top) (unsigned_at (top / 128) first s bytes >>= λ x. gives (b - 128 + 128 * x.0) x.1)
          (refusal kinds.Number first) (n, rest) (rw (le-ltb b 128 le) at e) in
          bind_case (unsigned_at (top / 128) first s bytes) (λ x. gives (b - 128 + 128 * x.0) x.1) (n, rest) t.1 (λ high mid e1 e2.
          take_is (IsUnsigned top (b ∷ bytes)) (b - 128 + 128 * high) n mid rest e2
          (inr (le, ltb-true _ _ t.0, (high, unsigned_takes (top / 128) first s bytes high mid (sym e1), refl))))
    ]

pub unsigned_again : (top first : ℕ) (s : Bounds) (bytes : List ℕ) (n : ℕ) (rest : List ℕ)
    → IsUnsigned top bytes n rest → unsigned_at top first s bytes ≡ Ok (n, rest)
unfolding unsigned_at
unsigned_again top first s [] n rest h = absurd h
unsigned_again top first s (b ∷ bytes) n rest (inl h) = rw (lt-ltb b 128 h.0, le-ltb top b h.1, h.2, h.3) refl
unsigned_again top first s (b ∷ bytes) n rest (inr h) =
    rw (le-ltb b 128 h.0, lt-ltb 127 top h.1, unsigned_again (top / 128) first s bytes h.2.0 rest h.2.1, h.2.2) refl

pub unsigned_within : (top : ℕ) (bytes : List ℕ) (n : ℕ) (rest : List ℕ) → IsUnsigned top bytes n rest → length rest ≤ length bytes
unsigned_within top [] n rest h = absurd h
unsigned_within top (b ∷ bytes) n rest (inl h) = rw h.3 (omega arith)
unsigned_within top (b ∷ bytes) n rest (inr h) = omega (arith, unsigned_within (top / 128) bytes h.2.0 rest h.2.1)

pub u32_law : Law IsU32 u32_at
u32_law = record {
  takes = λ s bytes. unsigned_takes 0xffff_ffff (offset_of s bytes) s bytes;
  again = λ s bytes. unsigned_again 0xffff_ffff (offset_of s bytes) s bytes;
  within = unsigned_within 0xffff_ffff;
}

pub u32_within_law : (limit : ℕ) → Law (IsU32Within limit) (u32_within_at limit)
unfolding u32_within_at
u32_within_law limit = record {
  takes = λ s bytes n rest e.
      bind_case (u32_at s bytes) (λ n. cond (ltb limit n.0) (bad (refused kinds.Limit s bytes)) (good n)) (n, rest) e (λ m mid e1 e2.
      let t = unless_ok (ltb limit m) (refused kinds.Limit s bytes) (gives m mid) (n, rest) e2 in
      take_is (IsU32Within limit bytes) m n mid rest t.1 (u32_law.takes s bytes m mid (sym e1), ltb-false _ _ t.0));
  again = λ s bytes n rest h. rw (u32_law.again s bytes n rest h.0, le-ltb limit n h.1) refl;
  within = λ bytes n rest h. u32_law.within bytes n rest h.0;
}

pub signed_takes : (half first : ℕ) (s : Bounds) (bytes : List ℕ) (n : ℕ) (rest : List ℕ)
    → signed_at half first s bytes ≡ Ok (n, rest) → IsSigned half bytes n rest
unfolding signed_at
signed_takes half first s [] n rest e = absurd cc
signed_takes half first s (b ∷ bytes) n rest e =
    let wrong = refusal kinds.Number first in
    elim (cases_lt b 64) [
      | inl lt ↦
          let t = when_ok (ltb b half) (gives b bytes) wrong (n, rest) (rw (lt-ltb b 64 lt) at e) in
          let p = good_pair b n bytes rest t.1 in
          inl (lt, ltb-true _ _ t.0, p.0, p.1)
      | inr le ↦
          elim (cases_lt b 128) [
            | inl lt ↦
                let t = unless_ok (ltb (b + half) 128) wrong (gives (half - (128 - b) + half) bytes) (n, rest) (rw (le-ltb b 64 le, lt-ltb b 128 lt) at e) in
                let p = good_pair (half - (128 - b) + half) n bytes rest t.1 in
                inr (inl (le, lt, ltb-false _ _ t.0, p.0, p.1))
            | inr more ↦
                let t = when_ok (ltb 64 half) (signed_at (half / 128) first s bytes >>= λ x. gives (b - 128 + 128 * x.0) x.1)
                wrong (n, rest) (rw (le-ltb b 64 le, le-ltb b 128 more) at e) in
                bind_case (signed_at (half / 128) first s bytes) _ _ t.1 (λ high mid e1 e2.
                take_is (IsSigned half (b ∷ bytes))
                (b - 128 + 128 * high) n mid rest e2
                (inr (inr (
                  more,
                  ltb-true _ _ t.0,
                  (high, signed_takes (half / 128) first s bytes high mid (sym e1), refl),
                ))))
          ]
    ]

pub signed_again : (half first : ℕ) (s : Bounds) (bytes : List ℕ) (n : ℕ) (rest : List ℕ)
    → IsSigned half bytes n rest → signed_at half first s bytes ≡ Ok (n, rest)
unfolding signed_at
signed_again half first s [] n rest h = absurd h
signed_again half first s (b ∷ bytes) n rest (inl h) = rw (lt-ltb b 64 h.0, lt-ltb b half h.1, h.2, h.3) refl
signed_again half first s (b ∷ bytes) n rest (inr (inl h)) = rw (le-ltb b 64 h.0, lt-ltb b 128 h.1, le-ltb (b + half) 128 h.2, h.3, h.4) refl
signed_again half first s (b ∷ bytes) n rest (inr (inr h)) =
    rw (
      le-ltb b 64 (omega (arith, h.0)),
      le-ltb b 128 h.0,
      lt-ltb 64 half h.1,
      signed_again (half / 128) first s bytes h.2.0 rest h.2.1,
      h.2.2,
    ) refl

pub signed_within : (half : ℕ) (bytes : List ℕ) (n : ℕ) (rest : List ℕ) → IsSigned half bytes n rest → length rest ≤ length bytes
signed_within half [] n rest h = absurd h
signed_within half (b ∷ bytes) n rest (inl h) = rw h.3 (omega arith)
signed_within half (b ∷ bytes) n rest (inr (inl h)) = rw h.4 (omega arith)
signed_within half (b ∷ bytes) n rest (inr (inr h)) = omega (arith, signed_within (half / 128) bytes h.2.0 rest h.2.1)

pub s32_law : Law IsS32 s32_at
s32_law = record {
  takes = λ s bytes. signed_takes 0x8000_0000 (offset_of s bytes) s bytes;
  again = λ s bytes. signed_again 0x8000_0000 (offset_of s bytes) s bytes;
  within = signed_within 0x8000_0000;
}

pub s64_law : Law IsS64 s64_at
s64_law = record {
  takes = λ s bytes. signed_takes 0x8000_0000_0000_0000 (offset_of s bytes) s bytes;
  again = λ s bytes. signed_again 0x8000_0000_0000_0000 (offset_of s bytes) s bytes;
  within = signed_within 0x8000_0000_0000_0000;
}

-- ---- blocks

pub slice_ok : (n : ℕ) (s : Bounds) (bytes block rest : List ℕ) → slice_at n s bytes ≡ Ok (block, rest) → (length block ≡ n) × (bytes ≡ block ++ rest)
slice_ok n s bytes block rest e =
    let t = unless_ok (ltb (length bytes) n) (missing s) (gives (take n bytes) (drop n bytes)) (block, rest) e in
    let p = good_pair (take n bytes) block (drop n bytes) rest t.1 in
    let le : n ≤ length bytes = ltb-false _ _ t.0 in
    (rw p.0 (omega (arith, length-take n bytes)), rw (p.0, p.1) (sym (take-append-drop n bytes)))

pub slice_again : (s : Bounds) (block rest : List ℕ) → slice_at (length block) s (block ++ rest) ≡ Ok (block, rest)
slice_again s block rest =
    let long : ltb (length (block ++ rest)) (length block) ≡ false = le-ltb _ _ (omega (arith, length-append block rest)) in
    rw (long, take_at block rest (length block) refl, drop_at block rest (length block) refl) refl

pub block_takes : (s : Bounds) (bytes block rest : List ℕ) → block_at s bytes ≡ Ok (block, rest) → IsBlock bytes block rest
unfolding block_at
block_takes s bytes block rest e =
    bind_case (u32_at s bytes) (λ n. slice_at n.0 s n.1) (block, rest) e (λ n mid e1 e2.
    let p = slice_ok n s mid block rest e2 in
    (mid, rw p.0 (u32_law.takes s bytes n mid (sym e1)), p.1))

pub block_again : (s : Bounds) (bytes block rest : List ℕ) → IsBlock bytes block rest → block_at s bytes ≡ Ok (block, rest)
unfolding block_at
block_again s bytes block rest h = rw (u32_law.again s bytes (length block) h.0 h.1, h.2) (slice_again s block rest)

pub block_within : (bytes block rest : List ℕ) → IsBlock bytes block rest → length rest ≤ length bytes
block_within bytes block rest h = omega (arith, u32_law.within bytes (length block) h.0 h.1, ap length h.2, length-append block rest)

pub block_law : Law IsBlock block_at
block_law = record { takes = block_takes; again = block_again; within = block_within }

name_end : (s : Bounds) (block rest mid : List ℕ) → is_utf8 block ≡ true
    → (slice_at (length block) s (block ++ rest) >>= λ text. cond (is_utf8 text.0) (good text) (bad (refused kinds.Name s mid))) ≡ gives block rest
name_end s block rest mid h = rw (slice_again s block rest, h) refl

pub name_law : Law IsName name_at
unfolding name_at
name_law = record {
  takes = λ s bytes text rest e.
      bind_case (u32_at s bytes) (λ size. slice_at size.0 s size.1 >>= λ text. cond (is_utf8 text.0) (good text) (bad (refused kinds.Name s size.1)))
      (text, rest) e (λ n mid e1 e2.
      bind_case (slice_at n s mid) (λ text. cond (is_utf8 text.0) (good text) (bad (refused kinds.Name s mid))) (text, rest) e2 (λ block after e3 e4.
      let p = slice_ok n s mid block after (sym e3) in
      let t = when_ok (is_utf8 block) (gives block after) (refused kinds.Name s mid) (text, rest) e4 in
      take_is (IsName bytes) block text after rest t.1 ((mid, rw p.0 (u32_law.takes s bytes n mid (sym e1)), p.1), t.0)));
  again = λ s bytes text rest h.
      rw (u32_law.again s bytes (length text) h.0.0 h.0.1, h.0.2) (name_end s text rest (text ++ rest) h.1);
  within = λ bytes text rest h. block_within bytes text rest h.0;
}

-- ---- a part of stated size

pub sized_law : {A : Type 0} (P : Spelling A) (at : Reading A) → Law P at → Law (IsSized P) (sized_at at)
unfolding sized_at
sized_law P at law = record {
  takes = λ s bytes x rest e.
      bind_case (block_at s bytes) (λ block. at (inside s block.1) block.0 >>= λ x. end_at (inside s block.1) x.1 >>= λ whole. gives x.0 block.1)
      (x, rest) e (λ block after e1 e2.
      bind_case (at (inside s after) block) (λ x. end_at (inside s after) x.1 >>= λ whole. gives x.0 after) (x, rest) e2 (λ y left e3 e4.
      let t = end_case (inside s after) left (gives y after) (x, rest) e4 in
      take_is (IsSized P bytes) y x after rest t.1
      (block, block_takes s bytes block after (sym e1), law.takes (inside s after) block y [] (rw t.0 at (sym e3)))));
  again = λ s bytes x rest h. rw (block_again s bytes h.0 rest h.1, law.again (inside s rest) h.0 x [] h.2) refl;
  within = λ bytes x rest h. block_within bytes h.0 rest h.1;
}

-- ---- vectors

pub items_takes : {A : Type 0} (P : Spelling A) (at : Reading A) (law : Law P at) (n : ℕ) (s : Bounds)
    (bytes : List ℕ) (xs : List A) (rest : List ℕ) → items_at at n s bytes ≡ Ok (xs, rest) → (length xs ≡ n)
    × IsItems P bytes xs rest
unfolding items_at
items_takes {A} P at law zero s bytes xs rest e =
    let p = good_pair [] xs bytes rest e in
    subst (λ (ys : List A). (length ys ≡ 0) × IsItems P bytes ys rest) (sym p.0) (refl, p.1)
items_takes {A} P at law (suc n) s bytes xs rest e =
    bind_case (at s bytes) (λ first. items_at at n s first.1 >>= λ others. gives (first.0 ∷ others.0) others.1) (xs, rest) e (λ first mid e1 e2.
    bind_case (items_at at n s mid) (λ others. gives (first ∷ others.0) others.1) (xs, rest) e2 (λ others after e3 e4.
    let more = items_takes P at law n s mid others after (sym e3) in
    take_is (λ (ys : List A) (r : List ℕ). (length ys ≡ suc n) × IsItems P bytes ys r)
    (first ∷ others) xs after rest e4 (ap suc more.0, (mid, law.takes s bytes first mid (sym e1), more.1))))

pub items_again : {A : Type 0} (P : Spelling A) (at : Reading A) (law : Law P at) (s : Bounds) (bytes : List ℕ)
    (xs : List A) (rest : List ℕ) → IsItems P bytes xs rest → items_at at (length xs) s bytes ≡ Ok (xs, rest)
unfolding items_at
items_again P at law s bytes [] rest h = rw h refl
items_again P at law s bytes (x ∷ xs) rest h = rw (law.again s bytes x h.0 h.1, items_again P at law s h.0 xs rest h.2) refl

pub items_within : {A : Type 0} (P : Spelling A) (at : Reading A) (law : Law P at) (bytes : List ℕ)
    (xs : List A) (rest : List ℕ) → IsItems P bytes xs rest → length rest ≤ length bytes
items_within P at law bytes [] rest h = omega (arith, ap length h)
items_within P at law bytes (x ∷ xs) rest h = omega (arith, law.within bytes x h.0 h.1, items_within P at law h.0 xs rest h.2)

pub vector_law : {A : Type 0} (limit : ℕ) (P : Spelling A) (at : Reading A) → Law P at → Law (IsVector limit P) (vector_at limit at)
unfolding vector_at
vector_law limit P at law = record {
  takes = λ s bytes xs rest e.
      bind_case (u32_within_at limit s bytes) (λ n. items_at at n.0 s n.1) (xs, rest) e (λ n mid e1 e2.
      let i = items_takes P at law n s mid xs rest e2 in
      (mid, rw i.0 ((u32_within_law limit).takes s bytes n mid (sym e1)), i.1));
  again = λ s bytes xs rest h. rw ((u32_within_law limit).again s bytes (length xs) h.0 h.1) (items_again P at law s h.0 xs rest h.2);
  within = λ bytes xs rest h. omega (arith, (u32_within_law limit).within bytes (length xs) h.0 h.1, items_within P at law h.0 xs rest h.2);
}

-- ---- parts one after the other

pub pure_law : {A : Type 0} (x : A) → Law (λ bytes y rest. (y ≡ x) × (rest ≡ bytes)) (λ s bytes. Ok (x, bytes))
pure_law x = record {
  takes = λ s bytes y rest e. good_pair x y bytes rest e;
  again = λ s bytes y rest h. rw (h.0, h.1) refl;
  within = λ bytes y rest h. omega (arith, ap length h.1);
}

pub map_law : {A B : Type 0} (g : A → B) (P : Spelling A) (at : Reading A) → Law P at
    → Law (λ bytes y rest. (x : A) × P bytes x rest × (y ≡ g x)) (λ s bytes. at s bytes >>= λ x. Ok (g x.0, x.1))
map_law {A} {B} g P at law = record {
  takes = λ s bytes y rest e.
      bind_case (at s bytes) (λ x. gives (g x.0) x.1) (y, rest) e (λ x mid e1 e2.
      take_is (λ (z : B) (r : List ℕ). (t : A) × P bytes t r × (z ≡ g t)) (g x) y mid rest e2 (x, law.takes s bytes x mid (sym e1), refl));
  again = λ s bytes y rest h. rw (law.again s bytes h.0 rest h.1, h.2) refl;
  within = λ bytes y rest h. law.within bytes h.0 rest h.1;
}

pub then_law : {A B : Type 0} (P : Spelling A) (at : Reading A) (Q : A → Spelling B)
    (next : A → Reading B) → Law P at → ((x : A) → Law (Q x) (next x))
    → Law (λ bytes y rest. (x : A) × (mid : List ℕ) × P bytes x mid × Q x mid y rest) (λ s bytes. at s bytes >>= λ x. next x.0 s x.1)
then_law P at Q next law more = record {
  takes = λ s bytes y rest e.
      bind_case (at s bytes) (λ x. next x.0 s x.1) (y, rest) e (λ x mid e1 e2.
      (x, mid, law.takes s bytes x mid (sym e1), (more x).takes s mid y rest e2));
  again = λ s bytes y rest h. rw (law.again s bytes h.0 h.1 h.2) ((more h.0).again s h.1 y rest h.3);
  within = λ bytes y rest h. omega (arith, law.within bytes h.0 h.1 h.2, (more h.0).within h.1 y rest h.3);
}

pub one_case : {A B : Type 0} {G : Type 0} (r : Result A Refusal) (f : A → Result B Refusal) (y : B)
    → (r >>= f) ≡ Ok y → ((x : A) → good x ≡ r → f x ≡ Ok y → G) → G
one_case (Ok x) f y e go = go x refl e
one_case (Err x) f y e go = absurd cc

pub some_case : {A B : Type 0} {G : Type 0} (o : Option A) (wrong : Refusal) (f : A → Result B Refusal) (y : B)
    → (some_or wrong o >>= f) ≡ Ok y → ((x : A) → o ≡ Some x → f x ≡ Ok y → G) → G
some_case (Some x) wrong f y e go = go x refl e
some_case None wrong f y e go = absurd cc

-- ---- a byte that has to stand there

pub tag_takes : (kind : Fault) (tag : ℕ) (s : Bounds) (bytes start : List ℕ) → tag_at kind tag s bytes ≡ Ok start → bytes ≡ tag ∷ start
tag_takes kind tag s [] start e = absurd cc
tag_takes kind tag s (b ∷ bytes) start e =
    let t = when_ok (eqb b tag) (good bytes) (refused kind s (b ∷ bytes)) start e in
    rw (eqb-true b tag t.0, good_is bytes start t.1) refl
