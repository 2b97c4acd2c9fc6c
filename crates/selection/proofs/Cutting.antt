-- Spans of which each is cut by what those in front have.
use Rattle.std.proofs.Common.{◌≡◌, ℕ, ◌+◌, ◌<◌, ◌≤◌, Bool, true, false, ◌||◌, nat_le, All, List, [], ◌∷◌, ◌++◌, length, get_or, take, max, refl, sym, ap, ◌∙◌, arith, length-append, inl, inr}
use Rattle.std.proofs.Math.Bool.{or-true}
use Rattle.std.proofs.lemmas.Bool.{cases_lt}
use Rattle.std.proofs.lemmas.Bool.Decides.{nat_tests}
use Rattle.std.proofs.lemmas.List.{get_or_append_left, get_or_default, get_or_push, get_or-take, take_more, length-take}
use Rattle.std.proofs.lemmas.List.Elements.{All-nil, All-push}
use Rattle.std.proofs.lemmas.List.Folds.{list_any-append}
use Rattle.std.specs.List.Sorted.{IsNonDecreasingBy}
use Rattle.selection.specs.declared.choice.NumberSpan.{NumberSpan}
use Rattle.selection.specs.Choices.{has, some_has, HaveSame}
use Rattle.selection.specs.Spans.{HasNumber, AreApart, AreInOrder}

abbrev pub EndsBelow : ℕ → NumberSpan → Type 0
EndsBelow n span = span.last < n

abbrev pub BeginsBy : ℕ → NumberSpan → Type 0
BeginsBy n span = span.first ≤ n

-- They have each number below one from where all of them have begun.
abbrev pub Reach : List NumberSpan → ℕ → Type 0
Reach spans next = (n : ℕ) → All (BeginsBy n) spans → n < next → some_has spans n ≡ true

-- What was made of those gone through, with what was had by then.
pub record AreCut (made done : List NumberSpan) (next : ℕ) : Type 0 where
  pub in_order : AreInOrder made
  pub ends : All (EndsBelow next) made
  pub same : HaveSame made done
  pub reach : Reach done next

pub nothing_cut : AreCut [] [] 0
nothing_cut = record {
  in_order = record { apart = λ i j d lt len. absurd (omega (arith, lt, len)); have_numbers = All-nil HasNumber };
  ends = All-nil (EndsBelow 0);
  same = λ n. refl;
  reach = λ n all lt. absurd (omega (arith, lt));
}

apart_more : (made : List NumberSpan) (x : NumberSpan) (next : ℕ) → AreApart made → All (EndsBelow next) made → next ≤ x.first
    → AreApart (made ++ x ∷ [])
apart_more made x next h e le i j d lt len =
    let size : length (made ++ x ∷ []) ≡ length made + 1 = length-append made (x ∷ []) in
    let below : i < length made = omega (arith, size, len, lt) in
    let first : get_or (made ++ x ∷ []) i d ≡ get_or made i d = get_or_append_left made (x ∷ []) d i below in
    elim (cases_lt j (length made)) [
      | inl within ↦ rw (first, get_or_append_left made (x ∷ []) d j within) (h i j d lt within)
      | inr past ↦
          let last : length made ≡ j = omega (arith, size, len, past) in
          let ends : (get_or made i d).last < next = e i d below in
          rw (first, get_or_push made x d j last) (omega (arith, ends, le))
    ]

one_more_in_order : (made : List NumberSpan) (x : NumberSpan) (next : ℕ) → AreInOrder made → All (EndsBelow next) made → next ≤ x.first
    → x.first ≤ x.last → AreInOrder (made ++ x ∷ [])
one_more_in_order made x next h e le has = record {
  apart = apart_more made x next h.apart e le;
  have_numbers = All-push HasNumber made x h.have_numbers has;
}

one_more_ends : (made : List NumberSpan) (x : NumberSpan) (next end : ℕ) → All (EndsBelow next) made → next ≤ end → x.last < end
    → All (EndsBelow end) (made ++ x ∷ [])
one_more_ends made x next end e le lt =
    All-push (EndsBelow end) made x (λ k d below. let h : (get_or made k d).last < next = e k d below in omega (arith, h, le)) lt

-- Those in front of one begin where it does, or before.
begin_before : (all : List NumberSpan) (k : ℕ) (d : NumberSpan) → IsNonDecreasingBy (λ (span : NumberSpan). span.first) all → k < length all
    → All (BeginsBy (get_or all k d).first) (take k all)
begin_before all k d sorted lt i e below =
    let size : length (take k all) ≤ k = omega (arith, length-take k all) in
    let within : i < k = omega (arith, below, size) in
    let order : (get_or all i e).first ≤ (get_or all k e).first = sorted i k e (omega (arith, within)) lt in
    rw (get_or-take k all i e within, get_or_default all k d e lt) order

have_begun : (n : ℕ) (done : List NumberSpan) (x : NumberSpan) → All (BeginsBy n) (done ++ x ∷ []) → All (BeginsBy n) done
have_begun n done x all k d lt =
    let within : k < length (done ++ x ∷ []) = omega (arith, lt, length-append done (x ∷ [])) in
    let begun : (get_or (done ++ x ∷ []) k d).first ≤ n = all k d within in
    rw (get_or_append_left done (x ∷ []) d k lt) at begun

has_begun : (n : ℕ) (done : List NumberSpan) (x : NumberSpan) → All (BeginsBy n) (done ++ x ∷ []) → x.first ≤ n
has_begun n done x all =
    let within : length done < length (done ++ x ∷ []) = omega (arith, length-append done (x ∷ [])) in
    let last : (get_or (done ++ x ∷ []) (length done) x).first ≤ n = all (length done) x within in
    rw (get_or_push done x x (length done) refl) at last

one_more_has : (done : List NumberSpan) (x : NumberSpan) (n : ℕ) → some_has (done ++ x ∷ []) n ≡ (some_has done n || (has x n || false))
one_more_has done x n = list_any-append (λ (span : NumberSpan). has span n) done (x ∷ [])

has_all : (x : NumberSpan) (n : ℕ) → x.first ≤ n → n ≤ x.last → has x n ≡ true
has_all x n begun ends = grind (arith, nat_tests, begun, ends)

-- A number that it was cut by is in those in front.
begins_same : (first begin next n : ℕ) → first ≡ max next begin → (begin ≤ n → n < next → false ≡ true) → nat_le first n ≡ nat_le begin n
begins_same first begin next n is had = elim (cases_lt n next) [
  | inl below ↦ elim (cases_lt n begin) [
    | inl before ↦ grind (arith, nat_tests, is, before)
    | inr begun ↦ let no : false ≡ true = had begun below in cc
  ]
  | inr past ↦ grind (arith, nat_tests, is, past)
]

cut_has : (b : Bool) (x new : NumberSpan) (next n : ℕ) → (x.first ≤ n → n < next → b ≡ true) → new.first ≡ max next x.first
    → new.last ≡ x.last → (b || (has new n || false)) ≡ (b || (has x n || false))
cut_has true x new next n had first last = refl
cut_has false x new next n had first last =
    rw (begins_same new.first x.first next n first had, last) refl

not_past : (x : NumberSpan) (next n : ℕ) → (x.first ≤ n → n < next → false ≡ true) → x.last < max next x.first → has x n ≡ false
not_past x next n had ends = elim (cases_lt n x.first) [
  | inl before ↦ grind (arith, nat_tests, before)
  | inr begun ↦ elim (cases_lt n next) [
    | inl below ↦ let no : false ≡ true = had begun below in cc
    | inr past ↦ grind (arith, nat_tests, ends, begun, past)
  ]
]

no_more : (b : Bool) (x : NumberSpan) (next n : ℕ) → (x.first ≤ n → n < next → b ≡ true) → x.last < max next x.first
    → b ≡ (b || (has x n || false))
no_more true x next n had ends = refl
no_more false x next n had ends = rw (not_past x next n had ends) refl

module _ (made done : List NumberSpan) (x : NumberSpan) (next : ℕ) (cut : AreCut made done next) (begin : All (BeginsBy x.first) done) where
  had : (n : ℕ) → x.first ≤ n → n < next → some_has done n ≡ true
  had n begun lt = cut.reach n (λ k d below. let b : (get_or done k d).first ≤ x.first = begin k d below in omega (arith, b, begun)) lt

  -- One that has numbers that were not had goes in, and what was had goes to its end.
  pub one_more_cut : (new : NumberSpan) → new.first ≡ max next x.first → new.last ≡ x.last → new.first < x.last + 1
      → AreCut (made ++ new ∷ []) (done ++ x ∷ []) (x.last + 1)
  one_more_cut new first last lt = record {
    in_order = one_more_in_order made new next cut.in_order cut.ends (omega (arith, first)) (omega (arith, last, lt));
    ends = one_more_ends made new next (x.last + 1) cut.ends (omega (arith, first, lt)) (omega (arith, last));
    same = λ n. one_more_has made new n ∙ ap (λ (b : Bool). b || (has new n || false)) (cut.same n)
        ∙ cut_has (some_has done n) x new next n (had n) first last ∙ sym (one_more_has done x n);
    reach = λ n all below. one_more_has done x n
        ∙ ap (λ (b : Bool). some_has done n || (b || false)) (has_all x n (has_begun n done x all) (omega (arith, below)))
        ∙ or-true (some_has done n);
  }

  -- What one has was had that does not go in.
  pub no_more_cut : x.last < max next x.first → AreCut made (done ++ x ∷ []) next
  no_more_cut ends = record {
    in_order = cut.in_order;
    ends = cut.ends;
    same = λ n. cut.same n ∙ no_more (some_has done n) x next n (had n) ends ∙ sym (one_more_has done x n);
    reach = λ n all below. one_more_has done x n ∙ ap (λ (b : Bool). b || (has x n || false)) (cut.reach n (have_begun n done x all) below);
  }

-- The same for the next of some that are sorted.
module _ (all made : List NumberSpan) (k next : ℕ) (d : NumberSpan) (sorted : IsNonDecreasingBy (λ (span : NumberSpan). span.first) all)
    (lt : k < length all) (cut : AreCut made (take k all) next) where
  pub next_cut : (new : NumberSpan) → new.first ≡ max next (get_or all k d).first → new.last ≡ (get_or all k d).last
      → new.first < (get_or all k d).last + 1 → AreCut (made ++ new ∷ []) (take (k + 1) all) ((get_or all k d).last + 1)
  next_cut new first last below = rw (take_more all k d lt)
      (one_more_cut made (take k all) (get_or all k d) next cut (begin_before all k d sorted lt) new first last below)

  pub next_had : (get_or all k d).last < max next (get_or all k d).first → AreCut made (take (k + 1) all) next
  next_had ends = rw (take_more all k d lt)
      (no_more_cut made (take k all) (get_or all k d) next cut (begin_before all k d sorted lt) ends)
