-- Where the readings of lines stop: what they took begins a text, and none goes on with the next line.
use Rattle.std.proofs.Common.{◌≡◌, ℕ, zero, suc, ◌+◌, ◌<◌, ◌≤◌, false, List, [], ◌∷◌, ◌++◌, Option, Some, None, refl, sym, ap, subst, ◌∙◌, append_assoc, arith}
use Rattle.std.specs.Prelude.{length}
use Rattle.std.specs.List.{list_any}
use Rattle.std.proofs.lemmas.Bool.Decides.{nat_tests}
use Rattle.replay_forms.specs.Reading.{◌>>=◌, Reader, after, both, several, more_of}
use Rattle.replay_forms.specs.Texts.{texts}
use Rattle.replay_forms.proofs.Laws.{Law, after_takes, after_again, both_text}
use Rattle.replay_forms.proofs.Repeated.{AllFit}
use Rattle.replay_text.specs.Faults.{Refusal}
use Rattle.replay_text.specs.Refusals.{fault_or, or_next, header_line}
use Rattle.replay_text.specs.Breaks.{is_feed, line_feeds}
use Rattle.replay_text.specs.declared.fault.RecordFault.TheVariants.{Header}
use Rattle.replay_text.proofs.Free.{Free, or_false, free_feeds, feeds_append}

pub none_some : {A : Type 0} (x : A) (o : Option A) → o ≡ None → o ≡ Some x → ⊥
none_some x o p q = cc

pub head_is : (x y : ℕ) (xs ys : List ℕ) → x ∷ xs ≡ y ∷ ys → x ≡ y
head_is x y xs ys e = cc

pub tail_is : (x y : ℕ) (xs ys : List ℕ) → x ∷ xs ≡ y ∷ ys → xs ≡ ys
tail_is x y xs ys e = cc

-- ---- up to a line feed

not_feed : (b : ℕ) → is_feed b ≡ false → 10 ≡ b → ⊥
not_feed b p e = absurd (grind (arith, nat_tests, p, e))

-- a text without a line feed, and one, at the front of a line
abbrev pub Split : List ℕ → List ℕ → List ℕ → List ℕ → Type 0
Split line other word rest = (l : List ℕ) × (line ++ 10 ∷ [] ≡ word ++ 10 ∷ l) × (rest ≡ l ++ other)

pub split : (line other word rest : List ℕ) → Free word → line ++ 10 ∷ other ≡ word ++ 10 ∷ rest → Split line other word rest
split [] other [] rest free e = ([], refl, sym (tail_is 10 10 other rest e))
split [] other (b ∷ word) rest free e =
    absurd (not_feed b (or_false (is_feed b) (list_any is_feed word) free).0 (head_is 10 b other (word ++ 10 ∷ rest) e))
split (c ∷ line) other [] rest free e =
    let h = head_is c 10 (line ++ 10 ∷ other) rest e in
    let t = tail_is c 10 (line ++ 10 ∷ other) rest e in
    (line ++ 10 ∷ [], ap (λ (b : ℕ). b ∷ (line ++ 10 ∷ [])) h, sym t ∙ sym (append_assoc line (10 ∷ []) other))
split (c ∷ line) other (b ∷ word) rest free e =
    let h = head_is c b (line ++ 10 ∷ other) (word ++ 10 ∷ rest) e in
    let t = tail_is c b (line ++ 10 ∷ other) (word ++ 10 ∷ rest) e in
    let s = split line other word rest (or_false (is_feed b) (list_any is_feed word) free).1 t in
    (s.0, ap (λ (d : ℕ). d ∷ (line ++ 10 ∷ [])) h ∙ ap (λ (z : List ℕ). b ∷ z) s.1, s.2)

-- the same front with something else behind the line
moved : (line other word rest more : List ℕ) (s : Split line other word rest) → line ++ 10 ∷ more ≡ word ++ 10 ∷ (s.0 ++ more)
moved line other word rest more s =
    sym (append_assoc line (10 ∷ []) more) ∙ ap (λ (t : List ℕ). t ++ more) s.1 ∙ append_assoc word (10 ∷ s.0) more

-- ---- readers of one line

pub record OneLine {A : Type 0} (text : A → List ℕ → List ℕ) (Fits : A → Type 0) : Type 0 where
  pub words : A → List ℕ
  pub spelled : (x : A) (rest : List ℕ) → text x rest ≡ words x ++ 10 ∷ rest
  pub free : (x : A) → Fits x → Free (words x)

local_by : {A : Type 0} (text : A → List ℕ → List ℕ) (Fits : A → Type 0) (at : Reader A) → Law text Fits at
    → OneLine text Fits → (line more other : List ℕ) → at (line ++ 10 ∷ more) ≡ None
    → (o : Option (A × List ℕ)) → at (line ++ 10 ∷ other) ≡ o → o ≡ None
local_by text Fits at law one line more other none None e = refl
local_by text Fits at law one line more other none (Some z) e =
    let t = law.takes (line ++ 10 ∷ other) z.0 z.1 e in
    let s = split line other (one.words z.0) z.1 (one.free z.0 t.1) (t.0 ∙ one.spelled z.0 z.1) in
    let back = moved line other (one.words z.0) z.1 more s ∙ sym (one.spelled z.0 (s.0 ++ more)) in
    absurd (none_some (z.0, s.0 ++ more) (at (line ++ 10 ∷ more)) none (ap at back ∙ law.again z.0 (s.0 ++ more) t.1))

pub local : {A : Type 0} (text : A → List ℕ → List ℕ) (Fits : A → Type 0) (at : Reader A) → Law text Fits at
    → OneLine text Fits → (line more other : List ℕ) → at (line ++ 10 ∷ more) ≡ None → at (line ++ 10 ∷ other) ≡ None
local text Fits at law one line more other none = local_by text Fits at law one line more other none (at (line ++ 10 ∷ other)) refl

after_by : (word line more other : List ℕ) → Free word → after (word ++ 10 ∷ []) (line ++ 10 ∷ more) ≡ None
    → (o : Option (List ℕ)) → after (word ++ 10 ∷ []) (line ++ 10 ∷ other) ≡ o → o ≡ None
after_by word line more other free none None e = refl
after_by word line more other free none (Some z) e =
    let t = after_takes (word ++ 10 ∷ []) (line ++ 10 ∷ other) z e ∙ append_assoc word (10 ∷ []) z in
    let s = split line other word z free t in
    let back = moved line other word z more s ∙ sym (append_assoc word (10 ∷ []) (s.0 ++ more)) in
    absurd (none_some (s.0 ++ more) (after (word ++ 10 ∷ []) (line ++ 10 ∷ more)) none
    (ap (after (word ++ 10 ∷ [])) back ∙ after_again (word ++ 10 ∷ []) (s.0 ++ more)))

pub after_local : (word line more other : List ℕ) → Free word → after (word ++ 10 ∷ []) (line ++ 10 ∷ more) ≡ None
    → after (word ++ 10 ∷ []) (line ++ 10 ∷ other) ≡ None
after_local word line more other free none = after_by word line more other free none (after (word ++ 10 ∷ []) (line ++ 10 ∷ other)) refl

-- ---- texts of lines

-- a text is so many lines in front of other bytes
pub record Lines {A : Type 0} (text : A → List ℕ → List ℕ) (Fits : A → Type 0) (count : A → ℕ) : Type 0 where
  pub front : A → List ℕ
  pub spelled : (x : A) (rest : List ℕ) → text x rest ≡ front x ++ rest
  pub feeds : (x : A) → Fits x → line_feeds (front x) ≡ count x

pub one_lines : {A : Type 0} (text : A → List ℕ → List ℕ) (Fits : A → Type 0) → OneLine text Fits → Lines text Fits (λ x. 1)
one_lines text Fits one = record {
  front = λ x. one.words x ++ 10 ∷ [];
  spelled = λ x rest. one.spelled x rest ∙ sym (append_assoc (one.words x) (10 ∷ []) rest);
  feeds = λ x fit. feeds_append (one.words x) (10 ∷ []) ∙ rw (free_feeds (one.words x) (one.free x fit)) refl;
}

pub both_lines : {A B : Type 0} (text : A → List ℕ → List ℕ) (Fits : A → Type 0) (count : A → ℕ)
    (uext : B → List ℕ → List ℕ) (Gits : B → Type 0) (dount : B → ℕ) → Lines text Fits count → Lines uext Gits dount
    → Lines (both_text text uext) (λ x. Fits x.0 × Gits x.1) (λ x. count x.0 + dount x.1)
both_lines text Fits count uext Gits dount l m = record {
  front = λ x. l.front x.0 ++ m.front x.1;
  spelled = λ x rest. l.spelled x.0 (uext x.1 rest) ∙ ap (λ (t : List ℕ). l.front x.0 ++ t) (m.spelled x.1 rest)
      ∙ sym (append_assoc (l.front x.0) (m.front x.1) rest);
  feeds = λ x fit. feeds_append (l.front x.0) (m.front x.1) ∙ rw (l.feeds x.0 fit.0, m.feeds x.1 fit.1) refl;
}

-- ---- where a reading stops

-- The reader gives nothing of the bytes: those in front begin a text that goes on, and nothing is read where they are
-- followed by what is the next line there.
pub record Stops {A : Type 0} (text : A → List ℕ → List ℕ) (Fits : A → Type 0) (at : Reader A) (count : A → ℕ) (bytes front rest : List ℕ) : Type 0 where
  pub cut : bytes ≡ front ++ rest
  pub again : (line more other : List ℕ) → rest ≡ line ++ 10 ∷ more → at (front ++ (line ++ 10 ∷ other)) ≡ None
  pub value : A
  pub fits : Fits value
  pub more : List ℕ → List ℕ
  pub text_is : (other : List ℕ) → text value other ≡ front ++ more other
  pub goes_on : (other : List ℕ) → 0 < length (more other)
  pub within : line_feeds front + 1 ≤ count value

-- where it stops, and what is said of it, counted from this line on
pub record Breaks {A : Type 0} (text : A → List ℕ → List ℕ) (Fits : A → Type 0) (at : Reader A) (count : A → ℕ) (first : ℕ) (refusal : Refusal)
    (bytes : List ℕ) : Type 0 where
  pub front : List ℕ
  pub rest : List ℕ
  pub stops : Stops text Fits at count bytes front rest
  pub is : refusal bytes ≡ Header (first + line_feeds front)

abbrev pub Breaking : {A : Type 0} → (A → List ℕ → List ℕ) → (A → Type 0) → Reader A → (A → ℕ) → ℕ → Refusal → Type 0
Breaking text Fits at count first refusal = (bytes : List ℕ) → at bytes ≡ None → Breaks text Fits at count first refusal bytes

above_none : (word rest : List ℕ) → 0 < length (word ++ 10 ∷ rest)
above_none [] rest = omega arith
above_none (b ∷ word) rest = omega arith

pub line_stops : {A : Type 0} (text : A → List ℕ → List ℕ) (Fits : A → Type 0) (at : Reader A) → Law text Fits at
    → OneLine text Fits → (x : A) → Fits x → (bytes : List ℕ) → at bytes ≡ None → Stops text Fits at (λ x. 1) bytes [] bytes
line_stops {A} text Fits at law one x fit bytes none = record {
  cut = refl;
  again = λ line more other e. local text Fits at law one line more other (ap at (sym e) ∙ none);
  value = x;
  fits = fit;
  more = λ other. text x other;
  text_is = λ other. refl;
  goes_on = λ other. subst (λ (t : List ℕ). 0 < length t) (sym (one.spelled x other)) (above_none (one.words x) other);
  within = omega arith;
}

pub line_breaks : {A : Type 0} (text : A → List ℕ → List ℕ) (Fits : A → Type 0) (at : Reader A) → Law text Fits at
    → OneLine text Fits → (x : A) → Fits x → (first : ℕ) → Breaking text Fits at (λ x. 1) first (header_line first)
line_breaks text Fits at law one x fit first bytes none = record {
  front = [];
  rest = bytes;
  stops = line_stops text Fits at law one x fit bytes none;
  is = ap (λ (n : ℕ). Header n) (omega arith);
}

abbrev joined_at : {A B : Type 0} → Reader B → A × List ℕ → Option ((A × B) × List ℕ)
joined_at bt x = bt x.1 >>= λ y. Some ((x.0, y.0), y.1)

pub first_stops : {A B : Type 0} (text : A → List ℕ → List ℕ) (Fits : A → Type 0) (at : Reader A) (count : A → ℕ)
    (uext : B → List ℕ → List ℕ) (Gits : B → Type 0) (bt : Reader B) (dount : B → ℕ) (y : B) → Gits y
    → (bytes front rest : List ℕ) → Stops text Fits at count bytes front rest
    → Stops (both_text text uext) (λ x. Fits x.0 × Gits x.1) (both at bt) (λ x. count x.0 + dount x.1) bytes front rest
first_stops {A} {B} text Fits at count uext Gits bt dount y fit bytes front rest s = record {
  cut = s.cut;
  again = λ line more other e. ap (λ (o : Option (A × List ℕ)). o >>= joined_at bt) (s.again line more other e);
  value = (s.value, y);
  fits = (s.fits, fit);
  more = λ other. s.more (uext y other);
  text_is = λ other. s.text_is (uext y other);
  goes_on = λ other. s.goes_on (uext y other);
  within = omega (arith, s.within);
}

pub second_stops : {A B : Type 0} (text : A → List ℕ → List ℕ) (Fits : A → Type 0) (at : Reader A) (count : A → ℕ)
    (uext : B → List ℕ → List ℕ) (Gits : B → Type 0) (bt : Reader B) (dount : B → ℕ) (law : Law text Fits at)
    (l : Lines text Fits count) (x : A) → Fits x → (bytes mid front rest : List ℕ) → bytes ≡ text x mid
    → Stops uext Gits bt dount mid front rest
    → Stops (both_text text uext) (λ x. Fits x.0 × Gits x.1) (both at bt) (λ x. count x.0 + dount x.1) bytes (l.front x ++ front) rest
second_stops {A} {B} text Fits at count uext Gits bt dount law l x fit bytes mid front rest e s = record {
  cut = e ∙ l.spelled x mid ∙ ap (λ (t : List ℕ). l.front x ++ t) s.cut ∙ sym (append_assoc (l.front x) front rest);
  again = λ line more other f.
      let back = append_assoc (l.front x) front (line ++ 10 ∷ other) ∙ sym (l.spelled x (front ++ (line ++ 10 ∷ other))) in
      ap (both at bt) back
      ∙ ap (λ (o : Option (A × List ℕ)). o >>= joined_at bt) (law.again x (front ++ (line ++ 10 ∷ other)) fit)
      ∙ ap (λ (o : Option (B × List ℕ)). o >>= λ y. Some ((x, y.0), y.1)) (s.again line more other f);
  value = (x, s.value);
  fits = (fit, s.fits);
  more = s.more;
  text_is = λ other. l.spelled x (uext s.value other) ∙ ap (λ (t : List ℕ). l.front x ++ t) (s.text_is other)
      ∙ sym (append_assoc (l.front x) front (s.more other));
  goes_on = s.goes_on;
  within = omega (arith, s.within, feeds_append (l.front x) front, l.feeds x fit);
}

none_of : {A B : Type 0} (bt : Reader B) (x : A × List ℕ) (o : Option (B × List ℕ)) → bt x.1 ≡ o → joined_at bt x ≡ None → o ≡ None
none_of bt x None e n = refl
none_of {A} {B} bt x (Some y) e n = absurd (none_some ((x.0, y.0), y.1) (joined_at bt x) n (rw e refl))

pub joined_none : {A B : Type 0} (bt : Reader B) (x : A × List ℕ) → joined_at bt x ≡ None → bt x.1 ≡ None
joined_none bt x n = none_of bt x (bt x.1) refl n

both_by : {A B : Type 0} (text : A → List ℕ → List ℕ) (Fits : A → Type 0) (at : Reader A)
    (uext : B → List ℕ → List ℕ) (Gits : B → Type 0) (bt : Reader B) (dount : B → ℕ) (law : Law text Fits at)
    (one : OneLine text Fits) (y : B) → Gits y → (x : A) → Fits x → (first : ℕ) (next : Refusal)
    → Breaking uext Gits bt dount (first + 1) next → (bytes : List ℕ) (o : Option (A × List ℕ)) → at bytes ≡ o
    → (o >>= joined_at bt) ≡ None
    → Breaks (both_text text uext) (λ x. Fits x.0 × Gits x.1) (both at bt) (λ x. 1 + dount x.1) first (or_next at (Header first) next) bytes
both_by {A} {B} text Fits at uext Gits bt dount law one y gfit x fit first next b bytes None e n = record {
  front = [];
  rest = bytes;
  stops = first_stops text Fits at (λ x. 1) uext Gits bt dount y gfit bytes [] bytes (line_stops text Fits at law one x fit bytes e);
  is = ap (λ (o : Option (A × List ℕ)). fault_or o (Header first) (λ x. next)) e ∙ ap (λ (n : ℕ). Header n) (omega arith);
}
both_by {A} {B} text Fits at uext Gits bt dount law one y gfit x fit first next b bytes (Some z) e n =
    let t = law.takes bytes z.0 z.1 e in
    let c = b z.1 (joined_none bt z n) in
    let l = one_lines text Fits one in
    let f : 1 + line_feeds c.front ≡ line_feeds (l.front z.0 ++ c.front) =
    omega (arith, feeds_append (l.front z.0) c.front, l.feeds z.0 t.1) in
    record {
      front = l.front z.0 ++ c.front;
      rest = c.rest;
      stops = second_stops text Fits at (λ x. 1) uext Gits bt dount law l z.0 t.1 bytes z.1 c.front c.rest t.0 c.stops;
      is = ap (λ (o : Option (A × List ℕ)). fault_or o (Header first) (λ x. next)) e ∙ c.is ∙ ap (λ (n : ℕ). Header n) (omega (arith, f));
    }

pub both_breaks : {A B : Type 0} (text : A → List ℕ → List ℕ) (Fits : A → Type 0) (at : Reader A)
    (uext : B → List ℕ → List ℕ) (Gits : B → Type 0) (bt : Reader B) (dount : B → ℕ) (law : Law text Fits at)
    (one : OneLine text Fits) (y : B) → Gits y → (x : A) → Fits x → (first : ℕ) (next : Refusal)
    → Breaking uext Gits bt dount (first + 1) next
    → Breaking (both_text text uext) (λ x. Fits x.0 × Gits x.1) (both at bt) (λ x. 1 + dount x.1) first (or_next at (Header first) next)
both_breaks text Fits at uext Gits bt dount law one y gfit x fit first next b bytes n =
    both_by text Fits at uext Gits bt dount law one y gfit x fit first next b bytes (at bytes) refl n

-- ---- items

-- the lines of items
abbrev pub items_front : {A : Type 0} → (ℕ → A → List ℕ) → ℕ → List A → List ℕ
items_front words i [] = []
items_front words i (x ∷ xs) = (words i x ++ 10 ∷ []) ++ items_front words (i + 1) xs

pub items_spelled : {A : Type 0} (text : ℕ → A → List ℕ → List ℕ) (words : ℕ → A → List ℕ)
    → ((i : ℕ) (x : A) (rest : List ℕ) → text i x rest ≡ words i x ++ 10 ∷ rest) → (i : ℕ) (xs : List A) (rest : List ℕ)
    → texts text i xs rest ≡ items_front words i xs ++ rest
items_spelled text words one i [] rest = refl
items_spelled text words one i (x ∷ xs) rest = one i x (texts text (i + 1) xs rest)
    ∙ ap (λ (t : List ℕ). words i x ++ 10 ∷ t) (items_spelled text words one (i + 1) xs rest)
    ∙ sym (append_assoc (words i x) (10 ∷ []) (items_front words (i + 1) xs ++ rest))
    ∙ sym (append_assoc (words i x ++ 10 ∷ []) (items_front words (i + 1) xs) rest)

pub items_feeds : {A : Type 0} (words : ℕ → A → List ℕ) (Fits : ℕ → A → Type 0)
    → ((i : ℕ) (x : A) → Fits i x → Free (words i x)) → (i : ℕ) (xs : List A) → AllFit Fits i xs
    → line_feeds (items_front words i xs) ≡ length xs
items_feeds words Fits free i [] fit = refl
items_feeds words Fits free i (x ∷ xs) fit =
    omega (
      arith,
      feeds_append (words i x ++ 10 ∷ []) (items_front words (i + 1) xs),
      feeds_append (words i x) (10 ∷ []),
      free_feeds (words i x) (free i x fit.0),
      items_feeds words Fits free (i + 1) xs fit.1,
    )

stops_by : {A : Type 0} (at : ℕ → Reader A) (i n : ℕ) (bytes : List ℕ) (o : Option (A × List ℕ)) → at i bytes ≡ o
    → ((rest : List ℕ) → length (several at (i + 1) n rest).0 < n
    → at ((i + 1) + length (several at (i + 1) n rest).0) (several at (i + 1) n rest).1 ≡ None)
    → length (more_of o bytes (λ r. several at (i + 1) n r)).0 < suc n
    → at (i + length (more_of o bytes (λ r. several at (i + 1) n r)).0) (more_of o bytes (λ r. several at (i + 1) n r)).1 ≡ None
stops_by at i n bytes None e so lt = let same : i + 0 ≡ i = omega arith in ap (λ (k : ℕ). at k bytes) same ∙ e
stops_by at i n bytes (Some x) e so lt =
    let xs = (several at (i + 1) n x.1).0 in
    let less : length xs < n = omega (arith, lt) in
    let same : i + length (x.0 ∷ xs) ≡ (i + 1) + length xs = omega arith in
    ap (λ (k : ℕ). at k (several at (i + 1) n x.1).1) same ∙ so x.1 less

-- where fewer items are read than there may be, the next isn't one
pub several_stops : {A : Type 0} (at : ℕ → Reader A) (i n : ℕ) (bytes : List ℕ) → length (several at i n bytes).0 < n
    → at (i + length (several at i n bytes).0) (several at i n bytes).1 ≡ None
unfolding several
several_stops at i zero bytes lt = absurd (omega (arith, lt))
several_stops at i (suc n) bytes lt =
    stops_by at i n bytes (at i bytes) refl (λ rest less. several_stops at (i + 1) n rest less) lt

pub several_all : {A : Type 0} (text : ℕ → A → List ℕ → List ℕ) (Fits : ℕ → A → Type 0) (at : ℕ → Reader A)
    → ((i : ℕ) (x : A) (rest : List ℕ) → Fits i x → at i (text i x rest) ≡ Some (x, rest))
    → (i n : ℕ) (xs : List A) (rest : List ℕ) → AllFit Fits i xs → length xs ≤ n
    → (length xs < n → at (i + length xs) rest ≡ None) → several at i n (texts text i xs rest) ≡ (xs, rest)
unfolding several
several_all text Fits at again i zero [] rest fit le stop = refl
several_all text Fits at again i (suc n) [] rest fit le stop =
    let same : i ≡ i + 0 = omega arith in
    ap (λ o. more_of o rest (λ r. several at (i + 1) n r)) (ap (λ (k : ℕ). at k rest) same ∙ stop (omega arith))
several_all text Fits at again i zero (x ∷ xs) rest fit le stop = absurd (omega (arith, le))
several_all {A} text Fits at again i (suc n) (x ∷ xs) rest fit le stop =
    let others = texts text (i + 1) xs rest in
    let same : (i + 1) + length xs ≡ i + length (x ∷ xs) = omega arith in
    let b = several_all text Fits at again (i + 1) n xs rest fit.1 (omega (arith, le))
    (λ lt. ap (λ (k : ℕ). at k rest) same ∙ stop (omega (arith, lt))) in
    ap (λ o. more_of o (text i x others) (λ r. several at (i + 1) n r)) (again i x others fit.0)
    ∙ ap (λ (z : List A × List ℕ). (x ∷ z.0, z.1)) b
