-- Numbers of states: a look-up that comes to a free number has seen all.
use Rattle.std.specs.Prelude.{ℕ, zero, suc, ◌≡◌, ◌+◌, ◌%◌, ◌^◌, ◌<◌, Bool, true, false, List, [], ◌∷◌, ◌++◌, length}
use Rattle.std.specs.Prelude.{get_or, Option, Some, None, nat_eq, nat_lt, position, Result, Ok, Err, IfOk, OnOk, refl}
use Rattle.std.specs.Prelude.{if◌then◌else◌}
use Rattle.std.proofs.Common.{ap, subst, sym, ◌∙◌, arith, ◌⊎◌, inl, inr, true≢false}
use Rattle.std.proofs.lemmas.Bool.{eqb-true, eq-eqb, ltb-true, cases_lt}
use Rattle.std.proofs.lemmas.Option.{none-some, cond_some, slice_get-get_or}
use Rattle.std.proofs.lemmas.List.{length_push}
use Rattle.std.proofs.lemmas.List.Sums.{passes_at_first}
use Rattle.std.proofs.lemmas.Cmp.{nat_eq_equiv, nat_list_eq_equiv}
use Rattle.std.proofs.lemmas.Map.Keys.{IsDistinct-push, any_passes_from_place}
use Rattle.std.specs.Cmp.{first_so, second_so}
use Rattle.std.specs.List.{slice_get, list_any, position_or_len, IsDistinct}
use Rattle.indexmap.specs.IndexSet.{insert_key}
use Rattle.search_table.specs.declared.states.States.{States}
use Rattle.search_table.specs.Tables.{Keeps, AreRows, rows_of, states_of, words_eq, is_row, with_row, row_digest}
use Rattle.search_table.specs.Tables.{number_after, IsTaken, HasNumber, AreStates, IsOthers, IsFree}
use Rattle.search_table.proofs.Keeping.{keeps-longer, get-last, at-longer}
use Rattle.search_table.proofs.Distinct.{same-place, none-equal}

pub words-same : (xs ys : List ℕ) → words_eq xs ys ≡ true → xs ≡ ys
words-same [] [] e = refl
words-same [] (y ∷ ys) e = absurd (true≢false (sym e))
words-same (x ∷ xs) [] e = absurd (true≢false (sym e))
words-same (x ∷ xs) (y ∷ ys) e =
    let first = eqb-true x y (first_so (nat_eq x y) (words_eq xs ys) e) in
    let others = words-same xs ys (second_so (nat_eq x y) (words_eq xs ys) e) in
    λ i. first i ∷ others i

pub words-self : (xs : List ℕ) → words_eq xs xs ≡ true
words-self xs = nat_list_eq_equiv.refl xs

pub number-first : (digest : ℕ) → number_after digest 0 ≡ digest
unfolding number_after
number-first digest = refl

pub number-more : (digest n m : ℕ) → m ≡ n + 1 → number_after digest m ≡ (number_after digest n + 1) % 2 ^ 64
unfolding number_after
number-more digest n m is =
    let next : m ≡ suc n = omega (arith, is) in ap (number_after digest) next

-- a number that is nobody's
pub none-taken : (numbers : List ℕ) (n : ℕ) → list_any (nat_eq n) numbers ≡ false → IsTaken numbers n → ⊥
none-taken numbers n none taken =
    true≢false (sym (any_passes_from_place (nat_eq n) numbers taken.0 n taken.1 (eq-eqb n n refl)) ∙ none)

-- where a test finds one
pub at-position : (p : ℕ → Bool) (xs : List ℕ) (place : ℕ) → Some place ≡ position p xs → (x : ℕ) × (slice_get xs place ≡ Some x) × (p x ≡ true)
at-position p xs place is =
    let first = position_or_len p xs in
    let c = cond_some (nat_lt first (length xs)) first place (sym is) in
    let low = ltb-true first (length xs) c.0 in
    let at = subst (λ (i : ℕ). slice_get xs i ≡ Some (get_or xs first 0)) c.1 (slice_get-get_or xs first 0 low) in
    (get_or xs first 0, at, passes_at_first p xs 0 low)

pub at-number : (numbers : List ℕ) (n place : ℕ) → Some place ≡ position (nat_eq n) numbers → slice_get numbers place ≡ Some n
at-number numbers n place is =
    let a = at-position (nat_eq n) numbers place is in
    a.1 ∙ ap (λ v. Some v) (sym (eqb-true n a.0 a.2))

-- whether a row stands there
pub row-there : (rows : List (List ℕ)) (place : ℕ) (row : List ℕ) (b : Bool) → b ≡ is_row (slice_get rows place) row → b ≡ true →
    slice_get rows place ≡ Some row
row-there rows place row b is holds = by (slice_get rows place) (sym is ∙ holds)
  where
    by : (o : Option (List ℕ)) → is_row o row ≡ true → o ≡ Some row
    by None e = absurd (true≢false (sym e))
    by (Some there) e = ap (λ v. Some v) (words-same there row e)

pub row-not-there : (rows : List (List ℕ)) (place : ℕ) (row : List ℕ) (b : Bool) → b ≡ is_row (slice_get rows place) row → b ≡ false
    → slice_get rows place ≡ Some row → ⊥
row-not-there rows place row b is fails at =
    true≢false (sym (words-self row) ∙ (ap (λ o. is_row o row) (sym at) ∙ (sym is ∙ fails)))

-- a table without states
pub no-states : (s : States) → AreRows s.rows → rows_of s.rows ≡ [] → s.digests.keys ≡ [] → AreStates s
unfolding IsDistinct
no-states s rows none empty = record {
  rows = rows;
  count = ap (λ l. length l) empty ∙ sym (ap (λ l. length l) none);
  apart = subst (IsDistinct nat_eq) (sym empty) tt;
  numbers = λ place row at. absurd (none-some row (subst (λ l. slice_get l place ≡ Some row) none at));
  distinct = subst (IsDistinct words_eq) (sym none) tt;
}

-- one number more is another's
pub others-more : (s : States) (row : List ℕ) (passed number place : ℕ) → number ≡ number_after (row_digest row) passed
    → slice_get s.digests.keys place ≡ Some number → (slice_get (states_of s) place ≡ Some row → ⊥)
    → ((n : ℕ) → n < passed → IsOthers s row (number_after (row_digest row) n)) → (n : ℕ) → n < passed + 1 → IsOthers s row (number_after (row_digest row) n)
others-more s row passed number place is at other before n low = elim (cases_lt n passed) [
  | inl below ↦ before n below
  | inr past ↦ (let same : n ≡ passed = omega (arith, low, past) in
      (place, at ∙ ap (λ v. Some v) (is ∙ ap (number_after (row_digest row)) (sym same)), other))
]

module _ (s : States) (are : AreStates s) (row : List ℕ) (number : ℕ) (free : IsFree s row number) where
  -- no state of this row is there
  pub not-there : (place : ℕ) → slice_get (states_of s) place ≡ Some row → ⊥
  not-there place at =
      let has = are.numbers place row at in
      let own = number_after (row_digest row) has.steps in
      elim (cases_lt has.steps free.steps) [
        | inl low ↦ (let other = free.passed has.steps low in
            let same = same-place nat_eq (λ x y e. sym (nat_eq_equiv.symm x y) ∙ e) s.digests.keys are.apart place other.0 own own has.own other.1
            (eq-eqb own own refl) in
            other.2 (subst (λ (i : ℕ). slice_get (states_of s) i ≡ Some row) same at))
        | inr high ↦ elim (cases_lt free.steps has.steps) [
          | inl below ↦ (let taken = has.taken free.steps below in free.free (taken.0, taken.1 ∙ ap (λ v. Some v) (sym free.is)))
          | inr past ↦ (let same : has.steps ≡ free.steps = omega (arith, high, past) in
              free.free (place, has.own ∙ ap (λ v. Some v) (ap (number_after (row_digest row)) same ∙ sym free.is)))
        ]
      ]

  pub row-none : list_any (words_eq row) (states_of s) ≡ false
  row-none = none-equal words_eq words-same (states_of s) row not-there

  pub number-none : list_any (nat_eq number) s.digests.keys ≡ false
  number-none = none-equal nat_eq eqb-true s.digests.keys number (λ i at. free.free (i, at))

  pub number-put : insert_key nat_eq s.digests.keys number ≡ s.digests.keys ++ number ∷ []
  number-put = ap (λ (b : Bool). if b then s.digests.keys else s.digests.keys ++ number ∷ []) number-none

  -- it is put there
  pub put-states : (t : States) → AreRows t.rows → rows_of t.rows ≡ states_of s ++ row ∷ [] → t.digests.keys ≡ s.digests.keys ++ number ∷ [] → AreStates t
  put-states t rows is put = record {
    rows = rows;
    count = (
        let old = are.count in
        let one = ap (λ l. length l) put in
        let two = ap (λ l. length l) is in
        let a = length_push s.digests.keys number in
        let b = length_push (states_of s) row in
        omega (arith, old, one, two, a, b));
    apart = subst (IsDistinct nat_eq) (sym put) (IsDistinct-push nat_eq_equiv s.digests.keys number are.apart number-none);
    numbers = λ place other at. subst (λ l. HasNumber l place other) (sym put)
        (by place other (at-longer (states_of s) row place other (subst (λ l. slice_get l place ≡ Some other) is at)));
    distinct = subst (IsDistinct words_eq) (sym is) (IsDistinct-push nat_list_eq_equiv (states_of s) row are.distinct row-none);
  }
    where
      more : Keeps s.digests.keys (s.digests.keys ++ number ∷ [])
      more = keeps-longer s.digests.keys (number ∷ [])

      by : (place : ℕ) (other : List ℕ) → (slice_get (states_of s) place ≡ Some other) ⊎ ((place ≡ length (states_of s)) × (row ≡ other))
          → HasNumber (s.digests.keys ++ number ∷ []) place other
      by place other (inl was) =
          let has = are.numbers place other was in
          record {
            steps = has.steps;
            own = more place (number_after (row_digest other) has.steps) has.own;
            taken = λ n low. (let t = has.taken n low in (t.0, more t.0 (number_after (row_digest other) n) t.1));
          }
      by place other (inr last) = subst (HasNumber (s.digests.keys ++ number ∷ []) place) last.1 (record {
        steps = free.steps;
        own = (let count = are.count in
            let same : place ≡ length s.digests.keys = last.0 ∙ sym count in
            subst (λ (i : ℕ). slice_get (s.digests.keys ++ number ∷ []) i ≡ Some (number_after (row_digest row) free.steps)) (sym same)
            (get-last s.digests.keys number ∙ ap (λ v. Some v) free.is));
        taken = λ n low. (let o = free.passed n low in (o.0, more o.0 (number_after (row_digest row) n) o.1));
      })

-- a table with such a row
pub with-row-old : (rows : List (List ℕ)) (row : List ℕ) (place : ℕ) → slice_get rows place ≡ Some row → rows ≡ with_row rows row
with-row-old rows row place at =
    ap (λ (b : Bool). if b then rows else rows ++ row ∷ []) (sym (any_passes_from_place (words_eq row) rows place row at (nat_list_eq_equiv.refl row)))

pub with-row-new : (rows : List (List ℕ)) (row : List ℕ) → list_any (words_eq row) rows ≡ false → rows ++ row ∷ [] ≡ with_row rows row
with-row-new rows row none = ap (λ (b : Bool). if b then rows else rows ++ row ∷ []) (sym none)

-- its place, where it was put behind the others
pub put-at : {E : Type 0} (r : Result ℕ E) (before after : List (List ℕ)) (row : List ℕ) → OnOk r (after ≡ before ++ row ∷ [])
    → IfOk r (λ place. place ≡ length before) → IfOk r (λ place. slice_get after place ≡ Some row)
put-at (Ok place) before after row is at =
    ap (λ l. slice_get l place) is ∙ (ap (slice_get (before ++ row ∷ [])) at ∙ get-last before row)
put-at (Err e) before after row is at = tt
