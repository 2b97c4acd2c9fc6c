-- The rows of states, as a table grows.
use Rattle.std.specs.Prelude.{ℕ, zero, suc, ◌≡◌, ◌&&◌, Bool, true, false, List, [], ◌∷◌, ◌++◌, length, Some, refl}
use Rattle.std.proofs.Common.{ap, subst, sym, ◌∙◌, true≢false}
use Rattle.std.specs.List.{slice_get, AllZip, AllByRecursion, IsDistinct}
use Rattle.std.specs.Cmp.{first_so, second_so}
use Rattle.std.specs.Cmp.Lexicographic.{pointwise}
use Rattle.std.proofs.lemmas.Option.{none-some}
use Rattle.search_table.specs.declared.parts.StateParts.{StateParts}
use Rattle.search_table.specs.declared.states.States.{States}
use Rattle.search_table.specs.Tables.{AreThreads, IsRow, Grows, ArePartsDistinct, AreStates, states_of, words_eq}
use Rattle.search_table.proofs.Keeping.{keeps-self}
use Rattle.search_table.proofs.Distinct.{same-place}
use Rattle.search_table.proofs.Numbers.{words-self}
use Rattle.search_reach.specs.declared.explores.NextState.{NextState}
use Rattle.search_settled.specs.declared.flat.RestingState.{RestingState}
use Rattle.search_settled.specs.declared.met.NextRow.{NextRow}
use Rattle.search_settled.specs.Same.{flat_eq}
use Rattle.search_settled.specs.Known.{IsOf, AreOf, IsNextRow}

-- lists beside each other

pub all-zip-weaker : {A B : Type 0} (P Q : A → B → Type 0) → ((a : A) (b : B) → P a b → Q a b) → (xs : List A) (ys : List B) → AllZip P xs ys → AllZip Q xs ys
all-zip-weaker P Q so [] [] h = tt
all-zip-weaker P Q so [] (y ∷ ys) h = absurd h
all-zip-weaker P Q so (x ∷ xs) [] h = absurd h
all-zip-weaker P Q so (x ∷ xs) (y ∷ ys) h = (so x y h.0, all-zip-weaker P Q so xs ys h.1)

-- what stands beside one
pub beside : {A B : Type 0} (P : A → B → Type 0) (xs : List A) (ys : List B) → AllZip P xs ys → (i : ℕ) (x : A) → slice_get xs i ≡ Some x
    → (y : B) × (slice_get ys i ≡ Some y) × P x y
beside P [] [] h i x at = absurd (none-some x at)
beside P [] (y ∷ ys) h i x at = absurd h
beside P (z ∷ xs) [] h i x at = absurd h
beside P (z ∷ xs) (y ∷ ys) h zero x at = let same : z ≡ x = cc at in (y, refl, subst (λ v. P v y) same h.0)
beside P (z ∷ xs) (y ∷ ys) h (suc i) x at = beside P xs ys h.1 i x at

pub beside-back : {A B : Type 0} (P : A → B → Type 0) (xs : List A) (ys : List B) → AllZip P xs ys → (i : ℕ) (y : B) → slice_get ys i ≡ Some y
    → (x : A) × (slice_get xs i ≡ Some x) × P x y
beside-back P [] [] h i y at = absurd (none-some y at)
beside-back P [] (z ∷ ys) h i y at = absurd h
beside-back P (x ∷ xs) [] h i y at = absurd h
beside-back P (x ∷ xs) (z ∷ ys) h zero y at = let same : z ≡ y = cc at in (x, refl, subst (P x) same h.0)
beside-back P (x ∷ xs) (z ∷ ys) h (suc i) y at = beside-back P xs ys h.1 i y at

pub zip-length : {A B : Type 0} (P : A → B → Type 0) (xs : List A) (ys : List B) → AllZip P xs ys → length ys ≡ length xs
zip-length P [] [] h = refl
zip-length P [] (y ∷ ys) h = absurd h
zip-length P (x ∷ xs) [] h = absurd h
zip-length P (x ∷ xs) (y ∷ ys) h = ap suc (zip-length P xs ys h.1)

-- the last ones beside each other
pub record Parted {A B : Type 0} (P : A → B → Type 0) (xs : List A) (x : A) (ys : List B) : Type 0 where
  pub before : List B
  pub last : B
  pub are : ys ≡ before ++ last ∷ []
  pub first : AllZip P xs before
  pub is : P x last

pub parted : {A B : Type 0} (P : A → B → Type 0) (xs : List A) (x : A) (ys : List B) → AllZip P (xs ++ x ∷ []) ys → Parted P xs x ys
parted P [] x [] h = absurd h
parted P [] x (y ∷ []) h = record { before = []; last = y; are = refl; first = tt; is = h.0 }
parted P [] x (y ∷ z ∷ ys) h = absurd h.1
parted P (w ∷ xs) x [] h = absurd h
parted P (w ∷ xs) x (y ∷ ys) h =
    let r = parted P xs x ys h.1 in
    record { before = y ∷ r.before; last = r.last; are = ap (λ l. y ∷ l) r.are; first = (h.0, r.first); is = r.is }

-- rows

module _ {G H : Type 0} where
  pub grows-self : (t : StateParts G H) → Grows t t
  grows-self t = record { shared = keeps-self t.shared.keys; threads = keeps-self t.threads.keys }

  pub grows-then : (t u v : StateParts G H) → Grows t u → Grows u v → Grows t v
  grows-then t u v a b = record {
    shared = λ i x at. b.shared i x (a.shared i x at);
    threads = λ i x at. b.threads i x (a.threads i x at);
  }

  pub threads-grow : (t u : StateParts G H) → Grows t u → (ns : List ℕ) (xs : List H) → AreThreads t ns xs → AreThreads u ns xs
  threads-grow t u grows ns xs are =
      all-zip-weaker (λ n x. slice_get t.threads.keys n ≡ Some x) (λ n x. slice_get u.threads.keys n ≡ Some x) grows.threads ns xs are

  pub row-grows : (t u : StateParts G H) → Grows t u → (r : List ℕ) (g : G) (xs : List H) → IsRow t r g xs → IsRow u r g xs
  row-grows t u grows [] g xs is = is
  row-grows t u grows (n ∷ ns) g xs is = (grows.shared n g is.0, threads-grow t u grows ns xs is.1)

  pub states-grow : (t u : StateParts G H) → Grows t u → (s : States) (cs : List (RestingState G H)) → AreOf t s cs → AreOf u s cs
  states-grow t u grows s cs are =
      all-zip-weaker (IsOf t) (IsOf u) (λ r c is. row-grows t u grows r c.shared c.threads.items is) (states_of s) cs are

  pub next-grow : (t u : StateParts G H) → Grows t u → (rs : List NextRow) (xs : List (NextState (RestingState G H))) → AllZip (IsNextRow t) rs xs →
      AllZip (IsNextRow u) rs xs
  next-grow t u grows rs xs are =
      all-zip-weaker (IsNextRow t) (IsNextRow u)
      (λ r x is. record { thread = is.thread; of = row-grows t u grows r.row.items x.state.shared x.state.threads.items is.of }) rs xs are

  -- numbers are of one row of threads
  threads-same : (t : StateParts G H) (ns : List ℕ) (xs ys : List H) → AreThreads t ns xs → AreThreads t ns ys → xs ≡ ys
  threads-same t [] [] [] is there = refl
  threads-same t [] [] (y ∷ ys) is there = absurd there
  threads-same t [] (x ∷ xs) ys is there = absurd is
  threads-same t (n ∷ ns) [] ys is there = absurd is
  threads-same t (n ∷ ns) (x ∷ xs) [] is there = absurd there
  threads-same t (n ∷ ns) (x ∷ xs) (y ∷ ys) is there =
      let first : x ≡ y = cc (is.0, there.0) in
      let others = threads-same t ns xs ys is.1 there.1 in
      λ i. first i ∷ others i

module _ {G H : Type 0} (eq_shared : G → G → Bool) (eq_thread : H → H → Bool) where
  pointwise-refl : ((x : H) → eq_thread x x ≡ true) → (xs : List H) → pointwise eq_thread xs xs ≡ true
  pointwise-refl self [] = refl
  pointwise-refl self (x ∷ xs) = ap (λ t. t && pointwise eq_thread xs xs) (self x) ∙ pointwise-refl self xs

  -- states of one row are equal
  pub row-alike : ((x : G) → eq_shared x x ≡ true) → ((x : H) → eq_thread x x ≡ true) → (t : StateParts G H) (r : List ℕ) (c d : RestingState G H) →
      IsOf t r c → IsOf t r d
      → flat_eq eq_shared eq_thread c d ≡ true
  row-alike shared_self thread_self t [] c d is there = absurd is
  row-alike shared_self thread_self t (n ∷ ns) c d is there =
      let shared : c.shared ≡ d.shared = cc (is.0, there.0) in
      let threads = threads-same t ns c.threads.items d.threads.items is.1 there.1 in
      ap (λ b. b && pointwise eq_thread c.threads.items d.threads.items) (ap (eq_shared c.shared) (sym shared) ∙ shared_self c.shared)
      ∙ (ap (pointwise eq_thread c.threads.items) (sym threads) ∙ pointwise-refl thread_self c.threads.items)

  -- rows of equal states are the same
  module _ (shared : (x y : G) → eq_shared x y ≡ true → eq_shared y x ≡ true) (thread : (x y : H) → eq_thread x y ≡ true → eq_thread y x ≡ true)
      (t : StateParts G H) (distinct : ArePartsDistinct eq_shared eq_thread t) where
    threads-one : (ns ms : List ℕ) (xs ys : List H) → AreThreads t ns xs → AreThreads t ms ys → pointwise eq_thread xs ys ≡ true → ns ≡ ms
    threads-one [] [] xs ys is there e = refl
    threads-one [] (m ∷ ms) [] [] is there e = absurd there
    threads-one [] (m ∷ ms) [] (y ∷ ys) is there e = absurd (true≢false (sym e))
    threads-one [] (m ∷ ms) (x ∷ xs) ys is there e = absurd is
    threads-one (n ∷ ns) ms [] ys is there e = absurd is
    threads-one (n ∷ ns) ms (x ∷ xs) [] is there e = absurd (true≢false (sym e))
    threads-one (n ∷ ns) [] (x ∷ xs) (y ∷ ys) is there e = absurd there
    threads-one (n ∷ ns) (m ∷ ms) (x ∷ xs) (y ∷ ys) is there e =
        let first = same-place eq_thread thread t.threads.keys distinct.threads n m x y is.0 there.0 (first_so (eq_thread x y) (pointwise eq_thread xs ys) e) in
        let others = threads-one ns ms xs ys is.1 there.1 (second_so (eq_thread x y) (pointwise eq_thread xs ys) e) in
        λ i. first i ∷ others i

    row-one : (r s : List ℕ) (c d : RestingState G H) → IsOf t r c → IsOf t s d → flat_eq eq_shared eq_thread c d ≡ true → r ≡ s
    row-one [] s c d is there e = absurd is
    row-one (n ∷ ns) [] c d is there e = absurd there
    row-one (n ∷ ns) (m ∷ ms) c d is there e =
        let a = first_so (eq_shared c.shared d.shared) (pointwise eq_thread c.threads.items d.threads.items) e in
        let b = second_so (eq_shared c.shared d.shared) (pointwise eq_thread c.threads.items d.threads.items) e in
        let first = same-place eq_shared shared t.shared.keys distinct.shared n m c.shared d.shared is.0 there.0 a in
        let others = threads-one ns ms c.threads.items d.threads.items is.1 there.1 b in
        λ i. first i ∷ others i

    row-apart : (r s : List ℕ) (c d : RestingState G H) → IsOf t r c → IsOf t s d → words_eq r s ≡ false → flat_eq eq_shared eq_thread c d ≡ false
    row-apart r s c d is there apart = by (flat_eq eq_shared eq_thread c d) refl
      where
        by : (b : Bool) → flat_eq eq_shared eq_thread c d ≡ b → flat_eq eq_shared eq_thread c d ≡ false
        by false e = e
        by true e = absurd (true≢false (sym (words-self r) ∙ (ap (words_eq r) (row-one r s c d is there e) ∙ apart)))

    states-apart : (r : List ℕ) (c : RestingState G H) → IsOf t r c → (rs : List (List ℕ)) (cs : List (RestingState G H)) →
        AllByRecursion (λ s. words_eq r s ≡ false) rs
        → AllZip (IsOf t) rs cs → AllByRecursion (λ d. flat_eq eq_shared eq_thread c d ≡ false) cs
    states-apart r c is [] [] apart are = tt
    states-apart r c is [] (d ∷ cs) apart are = absurd are
    states-apart r c is (s ∷ rs) [] apart are = absurd are
    states-apart r c is (s ∷ rs) (d ∷ cs) apart are = (row-apart r s c d is are.0 apart.0, states-apart r c is rs cs apart.1 are.1)

    all-distinct : (rs : List (List ℕ)) (cs : List (RestingState G H)) → IsDistinct words_eq rs → AllZip (IsOf t) rs cs →
        IsDistinct (flat_eq eq_shared eq_thread) cs
    unfolding IsDistinct
    all-distinct [] [] d are = tt
    all-distinct [] (c ∷ cs) d are = absurd are
    all-distinct (r ∷ rs) [] d are = absurd are
    all-distinct (r ∷ rs) (c ∷ cs) d are = (states-apart r c are.0 rs cs d.0 are.1, all-distinct rs cs d.1 are.1)

    pub states-distinct : (s : States) → AreStates s → (cs : List (RestingState G H)) → AreOf t s cs → IsDistinct (flat_eq eq_shared eq_thread) cs
    states-distinct s so cs are = all-distinct (states_of s) cs so.distinct are
