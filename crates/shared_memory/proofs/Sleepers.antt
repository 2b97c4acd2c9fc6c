-- Lists of sleepers: who is among them, who is left of them, and what an answer to each of them makes due.
use Rattle.std.proofs.Common.{◌≡◌, ℕ, ◌<◌, ◌==◌, Bool, true, false, not, ◌||◌, List, [], ◌∷◌, ◌++◌, length, take, zero, suc}
use Rattle.std.proofs.Common.{Option, Some, None, refl, sym, ◌∙◌, ap, subst, inl, inr, arith, get_or, set, get_or-set_same, get_or-set_other, length-set}
use Rattle.std.specs.List.{filter, list_any}
use Rattle.std.proofs.lemmas.Bool.{both_ways, or_parts, or_from, or_left, or_right, or_cases, eqb-true, eqb-false}
use Rattle.std.proofs.lemmas.Bool.{ne_eqb, cond_both, cases_Bool, not-true, not-false, false_from_ne_true}
use Rattle.std.proofs.lemmas.List.Folds.{list_any-append}
use Rattle.types.specs.declared.event.Answer.{Answer}
use Rattle.shared_memory.specs.declared.sleeper.Sleeper.{Sleeper}
use Rattle.shared_memory.specs.WaitQueue.{is_among, due_after}
use Rattle.shared_memory.specs.Sound.{AreDistinct, SleepOnce}

-- lists of any kind

-- what a list hasn't, its filter hasn't
pub list_any-filter : {X : Type 0} (p q : X → Bool) (xs : List X) → list_any q xs ≡ false → list_any q (filter p xs) ≡ false
list_any-filter p q [] none = none
list_any-filter p q (x ∷ xs) none =
    let parts : (q x ≡ false) × (list_any q xs ≡ false) = or_parts (q x) (list_any q xs) none in
    let rest : list_any q (filter p xs) ≡ false = list_any-filter p q xs parts.1 in
    cond_both (p x) (x ∷ filter p xs) (filter p xs) (λ w. list_any q w ≡ false) (λ e. or_from (q x) (list_any q (filter p xs)) parts.0 rest) (λ e. rest)

-- and what its beginning has, a list has
pub list_any-take : {X : Type 0} (q : X → Bool) (count : ℕ) (xs : List X) → list_any q (take count xs) ≡ true → list_any q xs ≡ true
list_any-take q zero xs some = absurd (cc some)
list_any-take q (suc count) [] some = some
list_any-take q (suc count) (x ∷ xs) some =
    elim (or_cases (q x) (list_any q (take count xs)) some) [
      | inl e ↦ or_left (q x) (list_any q xs) e
      | inr e ↦ or_right (q x) (list_any q xs) (list_any-take q count xs e)
    ]

-- and what a filter has, its list has
pub list_any-filtered : {X : Type 0} (p q : X → Bool) (xs : List X) → list_any q (filter p xs) ≡ true → list_any q xs ≡ true
list_any-filtered p q xs some =
    elim (cases_Bool (list_any q xs)) [ inl is ↦ is | inr none ↦ absurd (both_ways (list_any q (filter p xs)) (list_any-filter p q xs none) some) ]

-- numbers that a test tells apart are two
pub apart_by : (a b : ℕ) (test : ℕ → Bool) → test a ≡ false → test b ≡ true → (a == b) ≡ false
apart_by a b test fails passes = ne_eqb a b (λ e. both_ways (test b) (subst (λ (k : ℕ). test k ≡ false) e fails) passes)

-- whom a filter of the others leaves

abbrev pub others_than : List Sleeper → List Sleeper → List Sleeper
others_than woken sleepers = filter (λ (s : Sleeper). not (is_among s.thread woken)) sleepers

-- a thread among those who are woken is left out
pub others_than-woken : (n : ℕ) (woken sleepers : List Sleeper) → is_among n woken ≡ true → is_among n (others_than woken sleepers) ≡ false
others_than-woken n woken [] is = refl
others_than-woken n woken (s ∷ sleepers) is =
    let rest : is_among n (others_than woken sleepers) ≡ false = others_than-woken n woken sleepers is in
    cond_both (not (is_among s.thread woken)) (s ∷ others_than woken sleepers) (others_than woken sleepers) (λ w. is_among n w ≡ false)
    (λ e. or_from (s.thread == n) (is_among n (others_than woken sleepers))
    (apart_by s.thread n (λ k. is_among k woken) (not-true (is_among s.thread woken) e) is) rest)
    (λ e. rest)

-- and each other one stays as it was
pub others_than-other : (n : ℕ) (woken sleepers : List Sleeper) → is_among n woken ≡ false → is_among n (others_than woken sleepers) ≡ is_among n sleepers
others_than-other n woken [] isnt = refl
others_than-other n woken (s ∷ sleepers) isnt =
    let rest : is_among n (others_than woken sleepers) ≡ is_among n sleepers = others_than-other n woken sleepers isnt in
    cond_both (not (is_among s.thread woken)) (s ∷ others_than woken sleepers) (others_than woken sleepers) (λ w. is_among n w ≡ is_among n (s ∷ sleepers))
    (λ e. ap (λ w. (s.thread == n) || w) rest)
    (λ e. let same : (s.thread == n) ≡ false = other s (not-false (is_among s.thread woken) e) in rest ∙ ap (λ w. w || is_among n sleepers) (sym same))
  where
    other : (t : Sleeper) → is_among t.thread woken ≡ true → (t.thread == n) ≡ false
    other t is = false_from_ne_true (t.thread == n)
        (λ e. both_ways (is_among n woken) isnt (subst (λ (k : ℕ). is_among k woken ≡ true) (eqb-true t.thread n e) is))

-- distinct numbers and sleepers

pub AreDistinct-filter : (p : ℕ → Bool) (ns : List ℕ) → AreDistinct ns → AreDistinct (filter p ns)
AreDistinct-filter p [] h = tt
AreDistinct-filter p (n ∷ ns) h =
    let rest : AreDistinct (filter p ns) = AreDistinct-filter p ns h.1 in
    cond_both (p n) (n ∷ filter p ns) (filter p ns) (λ w. AreDistinct w) (λ e. (list_any-filter p (λ m. m == n) ns h.0, rest)) (λ e. rest)

pub AreDistinct-push : (ns : List ℕ) (n : ℕ) → AreDistinct ns → list_any (λ m. m == n) ns ≡ false → AreDistinct (ns ++ n ∷ [])
AreDistinct-push [] n h fresh = (refl, tt)
AreDistinct-push (m ∷ ns) n h fresh =
    let parts : ((m == n) ≡ false) × (list_any (λ k. k == n) ns ≡ false) = or_parts (m == n) (list_any (λ k. k == n) ns) fresh in
    let back : (n == m) ≡ false = ne_eqb n m (λ e. eqb-false m n parts.0 (sym e)) in (
      list_any-append (λ k. k == m) ns (n ∷ [])
          ∙ or_from (list_any (λ k. k == m) ns) ((n == m) || false) h.0 (or_from (n == m) false back refl),
      AreDistinct-push ns n h.1 parts.1,
    )

pub SleepOnce-filter : (p : Sleeper → Bool) (sleepers : List Sleeper) → SleepOnce sleepers → SleepOnce (filter p sleepers)
SleepOnce-filter p [] h = tt
SleepOnce-filter p (s ∷ sleepers) h =
    let rest : SleepOnce (filter p sleepers) = SleepOnce-filter p sleepers h.1 in
    cond_both (p s) (s ∷ filter p sleepers) (filter p sleepers) (λ w. SleepOnce w)
    (λ e. (list_any-filter p (λ (t : Sleeper). t.thread == s.thread) sleepers h.0, rest)) (λ e. rest)

pub SleepOnce-push : (sleepers : List Sleeper) (s : Sleeper) → SleepOnce sleepers → is_among s.thread sleepers ≡ false → SleepOnce (sleepers ++ s ∷ [])
SleepOnce-push [] s h fresh = (refl, tt)
SleepOnce-push (t ∷ sleepers) s h fresh =
    let parts : ((t.thread == s.thread) ≡ false) × (is_among s.thread sleepers ≡ false) = or_parts (t.thread == s.thread) (is_among s.thread sleepers) fresh in
    let back : (s.thread == t.thread) ≡ false = ne_eqb s.thread t.thread (λ e. eqb-false t.thread s.thread parts.0 (sym e)) in (
      list_any-append (λ (u : Sleeper). u.thread == t.thread) sleepers (s ∷ [])
          ∙ or_from (is_among t.thread sleepers) ((s.thread == t.thread) || false) h.0 (or_from (s.thread == t.thread) false back refl),
      SleepOnce-push sleepers s h.1 parts.1,
    )

-- what an answer to each of some sleepers makes due

pub length-due_after : (woken : List Sleeper) (a : Answer) (due : List (Option Answer)) → length (due_after woken a due) ≡ length due
length-due_after [] a due = refl
length-due_after (s ∷ woken) a due = length-due_after woken a (set due s.thread (Some a)) ∙ length-set due s.thread (Some a)

-- nothing is changed of another thread
pub due_after-other : (n : ℕ) (woken : List Sleeper) (a : Answer) (due : List (Option Answer)) → is_among n woken ≡ false
    → get_or (due_after woken a due) n None ≡ get_or due n None
due_after-other n [] a due isnt = refl
due_after-other n (s ∷ woken) a due isnt =
    let parts : ((s.thread == n) ≡ false) × (is_among n woken ≡ false) = or_parts (s.thread == n) (is_among n woken) isnt in
    due_after-other n woken a (set due s.thread (Some a)) parts.1 ∙ get_or-set_other due s.thread n (Some a) None (λ e. eqb-false s.thread n parts.0 (sym e))

-- and each of the woken has the answer due
pub due_after-woken : (n : ℕ) (woken : List Sleeper) (a : Answer) (due : List (Option Answer)) → n < length due → is_among n woken ≡ true
    → get_or (due_after woken a due) n None ≡ Some a
due_after-woken n [] a due within is = absurd (cc is)
due_after-woken n (s ∷ woken) a due within is =
    let within' : n < length (set due s.thread (Some a)) = omega (arith, length-set due s.thread (Some a)) in
    elim (cases_Bool (is_among n woken)) [
      | inl later ↦ due_after-woken n woken a (set due s.thread (Some a)) within' later
      | inr no_more ↦ due_after-other n woken a (set due s.thread (Some a)) no_more ∙ at_last due s woken within is no_more
    ]
  where
    at_last : (ds : List (Option Answer)) (t : Sleeper) (ts : List Sleeper) → n < length ds
        → is_among n (t ∷ ts) ≡ true → is_among n ts ≡ false → get_or (set ds t.thread (Some a)) n None ≡ Some a
    at_last ds t ts inside among isnt =
        elim (or_cases (t.thread == n) (is_among n ts) among) [
          | inl e ↦ (let same : n ≡ t.thread = sym (eqb-true t.thread n e) in
              subst (λ (k : ℕ). get_or (set ds k (Some a)) n None ≡ Some a) same (get_or-set_same ds n (Some a) None inside))
          | inr e ↦ absurd (both_ways (is_among n ts) isnt e)
        ]
