-- Lists of sleepers that are alike but for the order of those of two addresses.
use Rattle.std.proofs.Common.{◌≡◌, ℕ, ◌≤◌, ◌⊎◌, inl, inr, ◌==◌, Bool, true, false, true≢false, not, List, [], ◌∷◌, ◌++◌}
use Rattle.std.proofs.Common.{take, Option, Some, None, refl, sym, ap, ◌∙◌, subst, cond, arith}
use Rattle.std.specs.Prelude.{◌&&◌, ◌||◌, nat_lt, is_some, if◌then◌else◌}
use Rattle.std.specs.List.{filter, list_any}
use Rattle.std.specs.Option.{option_map_or}
use Rattle.std.proofs.lemmas.Bool.{cases_Bool, or_cases, or_left, or_right, or_parts, or_from, and_parts, and_from}
use Rattle.std.proofs.lemmas.Bool.{and_cases, and_left, and_right, both_ways, eqb-true}
use Rattle.std.proofs.lemmas.Bool.{eqb-false, eq-eqb, ne_eqb, cond_both, ltb-true, ltb-false, le-ltb, not-true, not-false, not_from_false, false_from_ne_true}
use Rattle.std.proofs.lemmas.List.Elements.{filter-append, filter_agree}
use Rattle.types.specs.declared.event.Answer.TheVariants.{Number, ForGood}
use Rattle.shared_memory.specs.declared.sleeper.Sleeper.{Sleeper}
use Rattle.shared_memory.specs.WaitQueue.{is_among, amount, has_timeout, ends_before, earlier, first_to_end, ended, end_answer}
use Rattle.shared_memory.specs.Sound.{SleepOnce}
use Rattle.shared_memory.proofs.Sleepers.{list_any-filtered, list_any-take, others_than}
use Rattle.search_apart.specs.Turning.{sleepers_at}

-- ---- Lists

-- who is in a list is at some address
pub any-at : (p : Sleeper → Bool) (xs : List Sleeper) → list_any p xs ≡ true → (addr : ℕ) × (list_any p (sleepers_at addr xs) ≡ true)
any-at p [] h = absurd (true≢false (sym h))
any-at p (s ∷ xs) h = elim (or_cases (p s) (list_any p xs) h) [
  | inl is ↦ (
    s.addr,
    ap (λ t. list_any p (cond t (s ∷ sleepers_at s.addr xs) (sleepers_at s.addr xs))) (eq-eqb s.addr s.addr refl)
        ∙ or_left (p s) (list_any p (sleepers_at s.addr xs)) is,
  )
  | inr later ↦ (let rest = any-at p xs later in (
    rest.0,
    cond_both (s.addr == rest.0) (s ∷ sleepers_at rest.0 xs) (sleepers_at rest.0 xs) (λ w. list_any p w ≡ true)
        (λ e. or_right (p s) (list_any p (sleepers_at rest.0 xs)) rest.1) (λ e. rest.1),
  ))
]

abbrev pub AreAlikeSleepers : List Sleeper → List Sleeper → Type 0
AreAlikeSleepers xs ys = (addr : ℕ) → sleepers_at addr xs ≡ sleepers_at addr ys

alike-back : (xs ys : List Sleeper) → AreAlikeSleepers xs ys → AreAlikeSleepers ys xs
alike-back xs ys h addr = sym (h addr)

any-there : (p : Sleeper → Bool) (xs ys : List Sleeper) → AreAlikeSleepers xs ys → list_any p xs ≡ true → list_any p ys ≡ true
any-there p xs ys alike h =
    let at = any-at p xs h in
    list_any-filtered (λ (s : Sleeper). s.addr == at.0) p ys (ap (list_any p) (sym (alike at.0)) ∙ at.1)

-- alike lists have the same
pub any-alike : (p : Sleeper → Bool) (xs ys : List Sleeper) → AreAlikeSleepers xs ys → list_any p xs ≡ list_any p ys
any-alike p xs ys alike = elim (cases_Bool (list_any p xs)) [
  | inl is ↦ is ∙ sym (any-there p xs ys alike is)
  | inr isnt ↦ isnt ∙ sym (false_from_ne_true (list_any p ys) (λ e. both_ways (list_any p xs) isnt (any-there p ys xs (alike-back xs ys alike) e)))
]

-- two filters, in either order
filter-step : {X : Type 0} (p q : X → Bool) (s : X) (xs : List X) (a b : Bool) → p s ≡ a → q s ≡ b → filter p (filter q xs) ≡ filter q (filter p xs)
    → filter p (cond b (s ∷ filter q xs) (filter q xs)) ≡ filter q (cond a (s ∷ filter p xs) (filter p xs))
filter-step p q s xs true true ha hb h =
    ap (λ t. cond t (s ∷ filter p (filter q xs)) (filter p (filter q xs))) ha
    ∙ (ap (λ w. s ∷ w) h ∙ sym (ap (λ t. cond t (s ∷ filter q (filter p xs)) (filter q (filter p xs))) hb))
filter-step p q s xs true false ha hb h = h ∙ sym (ap (λ t. cond t (s ∷ filter q (filter p xs)) (filter q (filter p xs))) hb)
filter-step p q s xs false true ha hb h = ap (λ t. cond t (s ∷ filter p (filter q xs)) (filter p (filter q xs))) ha ∙ h
filter-step p q s xs false false ha hb h = h

pub filter-swap : {X : Type 0} (p q : X → Bool) (xs : List X) → filter p (filter q xs) ≡ filter q (filter p xs)
filter-swap p q [] = refl
filter-swap p q (s ∷ xs) = filter-step p q s xs (p s) (q s) refl refl (filter-swap p q xs)

-- a filter that leaves out nobody
filter-all : (p : Sleeper → Bool) (xs : List Sleeper) → list_any (λ s. not (p s)) xs ≡ false → filter p xs ≡ xs
filter-all p [] h = refl
filter-all p (s ∷ xs) h =
    let parts = or_parts (not (p s)) (list_any (λ t. not (p t)) xs) h in
    ap (λ t. cond t (s ∷ filter p xs) (filter p xs)) (not-false (p s) parts.0) ∙ ap (λ w. s ∷ w) (filter-all p xs parts.1)

-- somebody with the one and without the other
any-with : (p r : Sleeper → Bool) (xs : List Sleeper) → list_any p xs ≡ true → list_any r xs ≡ false → (s : Sleeper) × (p s ≡ true) × (r s ≡ false)
any-with p r [] h k = absurd (true≢false (sym h))
any-with p r (s ∷ xs) h k =
    let parts = or_parts (r s) (list_any r xs) k in
    elim (or_cases (p s) (list_any p xs) h) [
      | inl is ↦ (s, is, parts.0)
      | inr later ↦ any-with p r xs later parts.1
    ]

none-of : (p r : Sleeper → Bool) (xs : List Sleeper) → list_any p xs ≡ false → ((s : Sleeper) → p s ≡ false → r s ≡ false) → list_any r xs ≡ false
none-of p r [] h k = refl
none-of p r (s ∷ xs) h k =
    let parts = or_parts (p s) (list_any p xs) h in
    or_from (r s) (list_any r xs) (k s parts.0) (none-of p r xs parts.1 k)

-- ---- Whose timeout ends first

abbrev before : ℕ → ℕ → ℕ → ℕ → Bool
before a i b j = nat_lt a b || ((a == b) && nat_lt i j)

before-false : (a i b j : ℕ) → before a i b j ≡ false → (b ≤ a) × (a ≡ b → j ≤ i)
before-false a i b j h =
    let parts = or_parts (nat_lt a b) ((a == b) && nat_lt i j) h in (
      ltb-false a b parts.0,
      λ same. (elim (and_cases (a == b) (nat_lt i j) parts.1) [
        | inl other ↦ absurd (eqb-false a b other same)
        | inr past ↦ ltb-false i j past
      ]),
    )

before-not : (a i b j : ℕ) → b ≤ a → (a ≡ b → j ≤ i) → before a i b j ≡ false
before-not a i b j low h =
    or_from (nat_lt a b) ((a == b) && nat_lt i j) (le-ltb a b low) (elim (cases_Bool (a == b)) [
      | inl same ↦ and_right (a == b) (nat_lt i j) (le-ltb i j (h (eqb-true a b same)))
      | inr other ↦ and_left (a == b) (nat_lt i j) other
    ])

before-itself : (a i : ℕ) → before a i a i ≡ false
before-itself a i = before-not a i a i (omega arith) (λ e. omega arith)

before-then : (a i b j : ℕ) → before a i b j ≡ true → before b j a i ≡ false
before-then a i b j h = elim (or_cases (nat_lt a b) ((a == b) && nat_lt i j) h) [
  | inl low ↦ (let l = ltb-true a b low in before-not b j a i (omega (arith, l)) (λ e. absurd (omega (arith, l, e))))
  | inr rest ↦ (let parts = and_parts (a == b) (nat_lt i j) rest in
      let same = eqb-true a b parts.0 in
      let l = ltb-true i j parts.1 in
      before-not b j a i (omega (arith, same)) (λ e. omega (arith, l)))
]

before-past : (a i b j c k : ℕ) → before c k a i ≡ false → before a i b j ≡ false → before c k b j ≡ false
before-past a i b j c k h g =
    let x = before-false c k a i h in
    let y = before-false a i b j g in
    let x0 = x.0 in
    let y0 = y.0 in
    before-not c k b j (omega (arith, x0, y0)) (λ e.
    (let p = x.1 (omega (arith, x0, y0, e)) in
    let q = y.1 (omega (arith, x0, y0, e)) in
    omega (arith, p, q)))

before-neither : (a i b j : ℕ) → before a i b j ≡ false → before b j a i ≡ false → i ≡ j
before-neither a i b j h g =
    let x = before-false a i b j h in
    let y = before-false b j a i g in
    let x0 = x.0 in
    let y0 = y.0 in
    let p = x.1 (omega (arith, x0, y0)) in
    let q = y.1 (omega (arith, x0, y0)) in
    omega (arith, p, q)

-- somebody in the list ends before this one
abbrev sooner : Sleeper → Sleeper → Bool
sooner f t = has_timeout t && ends_before t f

-- nobody has a timeout
first-none : (xs : List Sleeper) → first_to_end xs ≡ None → list_any has_timeout xs ≡ false
first-none [] h = refl
first-none (s ∷ xs) h =
    cond_both (has_timeout s) (Some (earlier s (first_to_end xs))) (first_to_end xs) (λ w. w ≡ None → list_any has_timeout (s ∷ xs) ≡ false)
    (λ timed here. absurd (cc here))
    (λ untimed here. or_from (has_timeout s) (list_any has_timeout xs) untimed (first-none xs here)) h

-- the first is there
first-in : (p : Sleeper → Bool) (xs : List Sleeper) (f : Sleeper) → first_to_end xs ≡ Some f → p f ≡ true → list_any p xs ≡ true
first-in p [] f h is = absurd (cc h)
first-in p (s ∷ xs) f h is =
    cond_both (has_timeout s) (Some (earlier s (first_to_end xs))) (first_to_end xs) (λ w. w ≡ Some f → list_any p (s ∷ xs) ≡ true)
    (λ timed here. (let same : earlier s (first_to_end xs) ≡ f = cc here in by (λ g. first-in p xs g) (first_to_end xs) refl same))
    (λ untimed here. or_right (p s) (list_any p xs) (first-in p xs f here is)) h
  where
    by : ((g : Sleeper) → first_to_end xs ≡ Some g → p g ≡ true → list_any p xs ≡ true) → (o : Option Sleeper) → first_to_end xs ≡ o → earlier s o ≡ f
        → (p s || list_any p xs) ≡ true
    by rest None e same = or_left (p s) (list_any p xs) (ap p same ∙ is)
    by rest (Some g) e same =
        cond_both (ends_before g s) g s (λ w. w ≡ f → (p s || list_any p xs) ≡ true)
        (λ t here. or_right (p s) (list_any p xs) (rest g e (ap p here ∙ is)))
        (λ t here. or_left (p s) (list_any p xs) (ap p here ∙ is)) same

first-timed : (xs : List Sleeper) (f : Sleeper) → first_to_end xs ≡ Some f → has_timeout f ≡ true
first-timed [] f h = absurd (cc h)
first-timed (s ∷ xs) f h =
    cond_both (has_timeout s) (Some (earlier s (first_to_end xs))) (first_to_end xs) (λ w. w ≡ Some f → has_timeout f ≡ true)
    (λ timed here. (let same : earlier s (first_to_end xs) ≡ f = cc here in by (λ g. first-timed xs g) timed (first_to_end xs) refl same))
    (λ untimed here. first-timed xs f here) h
  where
    by : ((g : Sleeper) → first_to_end xs ≡ Some g → has_timeout g ≡ true) → has_timeout s ≡ true → (o : Option Sleeper) → first_to_end xs ≡ o
        → earlier s o ≡ f → has_timeout f ≡ true
    by rest timed None e same = subst (λ g. has_timeout g ≡ true) same timed
    by rest timed (Some g) e same =
        cond_both (ends_before g s) g s (λ w. w ≡ f → has_timeout f ≡ true)
        (λ t here. subst (λ z. has_timeout z ≡ true) here (rest g e))
        (λ t here. subst (λ z. has_timeout z ≡ true) here timed) same

-- and nobody ends before it
first-least : (xs : List Sleeper) (f : Sleeper) → first_to_end xs ≡ Some f → list_any (sooner f) xs ≡ false
first-least [] f h = absurd (cc h)
first-least (s ∷ xs) f h =
    cond_both (has_timeout s) (Some (earlier s (first_to_end xs))) (first_to_end xs) (λ w. w ≡ Some f → list_any (sooner f) (s ∷ xs) ≡ false)
    (λ timed here. (let same : earlier s (first_to_end xs) ≡ f = cc here in by (λ g. first-least xs g) (first_to_end xs) refl same))
    (λ untimed here. or_from (sooner f s) (list_any (sooner f) xs) (and_left (has_timeout s) (ends_before s f) untimed) (first-least xs f here)) h
  where
    by : ((g : Sleeper) → first_to_end xs ≡ Some g → list_any (sooner g) xs ≡ false) → (o : Option Sleeper) → first_to_end xs ≡ o → earlier s o ≡ f
        → (sooner f s || list_any (sooner f) xs) ≡ false
    by rest None e same = subst (λ (z : Sleeper). (sooner z s || list_any (sooner z) xs) ≡ false) same
        (or_from (sooner s s) (list_any (sooner s) xs) (and_right (has_timeout s) (ends_before s s) (before-itself (amount s.timeout) s.thread))
        (none-of has_timeout (sooner s) xs (first-none xs e) (λ t none. and_left (has_timeout t) (ends_before t s) none)))
    by rest (Some g) e same =
        cond_both (ends_before g s) g s (λ w. w ≡ f → (sooner f s || list_any (sooner f) xs) ≡ false)
        (λ t here. subst (λ (z : Sleeper). (sooner z s || list_any (sooner z) xs) ≡ false) here
        (or_from (sooner g s) (list_any (sooner g) xs)
        (and_right (has_timeout s) (ends_before s g) (before-then (amount g.timeout) g.thread (amount s.timeout) s.thread t)) (rest g e)))
        (λ t here. subst (λ (z : Sleeper). (sooner z s || list_any (sooner z) xs) ≡ false) here
        (or_from (sooner s s) (list_any (sooner s) xs) (and_right (has_timeout s) (ends_before s s) (before-itself (amount s.timeout) s.thread))
        (none-of (sooner g) (sooner s) xs (rest g e) (λ v none. (elim (and_cases (has_timeout v) (ends_before v g) none) [
          | inl untimed ↦ and_left (has_timeout v) (ends_before v s) untimed
          | inr later ↦ and_right (has_timeout v) (ends_before v s)
              (before-past (amount g.timeout) g.thread (amount s.timeout) s.thread (amount v.timeout) v.thread later t)
        ]))))) same

-- Thread k has a timeout, and nobody's ends before it.
abbrev ends_first : ℕ → List Sleeper → Sleeper → Bool
ends_first k xs s = (s.thread == k) && (has_timeout s && not (list_any (sooner s) xs))

abbrev is_first : ℕ → List Sleeper → Bool
is_first k xs = list_any (ends_first k xs) xs

first-is : (k : ℕ) (xs : List Sleeper) (f : Sleeper) → first_to_end xs ≡ Some f → is_first k xs ≡ (f.thread == k)
first-is k xs f h = elim (cases_Bool (f.thread == k)) [
  | inl same ↦ first-in (ends_first k xs) xs f h
      (and_from (f.thread == k) (has_timeout f && not (list_any (sooner f) xs)) same
      (and_from (has_timeout f) (not (list_any (sooner f) xs)) (first-timed xs f h) (not_from_false (list_any (sooner f) xs) (first-least xs f h))))
      ∙ sym same
  | inr other ↦ false_from_ne_true (is_first k xs) (λ is. eqb-false f.thread k other (the_same is)) ∙ sym other
]
  where
    the_same : is_first k xs ≡ true → f.thread ≡ k
    the_same is =
        let w = any-with (ends_first k xs) (sooner f) xs is (first-least xs f h) in
        let s : Sleeper = w.0 in
        let parts = and_parts (s.thread == k) (has_timeout s && not (list_any (sooner s) xs)) w.1 in
        let more = and_parts (has_timeout s) (not (list_any (sooner s) xs)) parts.1 in
        let later : ends_before s f ≡ false = (elim (and_cases (has_timeout s) (ends_before s f) w.2) [
          | inl untimed ↦ absurd (both_ways (has_timeout s) untimed more.0)
          | inr past ↦ past
        ]) in
        let sooner_none : sooner s f ≡ false =
        false_from_ne_true (sooner s f) (λ e. both_ways (list_any (sooner s) xs) (not-true (list_any (sooner s) xs) more.1) (first-in (sooner s) xs f h e)) in
        let after : ends_before f s ≡ false = (elim (and_cases (has_timeout f) (ends_before f s) sooner_none) [
          | inl untimed ↦ absurd (both_ways (has_timeout f) untimed (first-timed xs f h))
          | inr past ↦ past
        ]) in
        before-neither (amount f.timeout) f.thread (amount s.timeout) s.thread after later ∙ eqb-true s.thread k parts.0

or-none : (b : Bool) → (b || false) ≡ b
or-none true = refl
or-none false = refl

-- whom settling wakes, told by what is in the list
abbrev ended_by : ℕ → List Sleeper → Bool
ended_by k xs = cond (list_any has_timeout xs) (is_first k xs) (is_among k xs)

ended-is : (k : ℕ) (xs : List Sleeper) (o : Option Sleeper) → first_to_end xs ≡ o
    → (is_among k (option_map_or (λ s. s ∷ []) o xs) ≡ ended_by k xs) × (is_some o ≡ list_any has_timeout xs)
ended-is k xs None h =
    let none = first-none xs h in
    (sym (ap (λ t. cond t (is_first k xs) (is_among k xs)) none), sym none)
ended-is k xs (Some f) h =
    let timed : list_any has_timeout xs ≡ true = first-in has_timeout xs f h (first-timed xs f h) in (
      or-none (f.thread == k) ∙ (sym (first-is k xs f h) ∙ sym (ap (λ t. cond t (is_first k xs) (is_among k xs)) timed)),
      sym timed,
    )

first-alike : (k : ℕ) (xs ys : List Sleeper) → AreAlikeSleepers xs ys → is_first k xs ≡ is_first k ys
first-alike k xs ys alike =
    any-alike (ends_first k xs) xs ys alike
    ∙ ap (λ (h : Sleeper → Bool). list_any (λ s. (s.thread == k) && (has_timeout s && not (h s))) ys) (λ i s. any-alike (sooner s) xs ys alike i)

pub ended-alike : (k : ℕ) (xs ys : List Sleeper) → AreAlikeSleepers xs ys → is_among k (ended xs) ≡ is_among k (ended ys)
ended-alike k xs ys alike =
    (ended-is k xs (first_to_end xs) refl).0
    ∙ (ap (λ t. cond t (is_first k xs) (is_among k xs)) (any-alike has_timeout xs ys alike)
    ∙ (ap (λ t. cond (list_any has_timeout ys) t (is_among k xs)) (first-alike k xs ys alike)
    ∙ (ap (λ t. cond (list_any has_timeout ys) (is_first k ys) t) (any-alike (λ (s : Sleeper). s.thread == k) xs ys alike)
    ∙ sym (ended-is k ys (first_to_end ys) refl).0)))

pub answer-alike : (xs ys : List Sleeper) → AreAlikeSleepers xs ys → end_answer xs ≡ end_answer ys
answer-alike xs ys alike =
    ap (λ t. if t then Number 2 else ForGood)
    ((ended-is 0 xs (first_to_end xs) refl).1 ∙ (any-alike has_timeout xs ys alike ∙ sym (ended-is 0 ys (first_to_end ys) refl).1))

-- ---- Without those who are woken

pub others-at : (addr : ℕ) (woken xs : List Sleeper) → sleepers_at addr (others_than woken xs) ≡ others_than woken (sleepers_at addr xs)
others-at addr woken xs = filter-swap (λ (s : Sleeper). s.addr == addr) (λ (s : Sleeper). not (is_among s.thread woken)) xs

pub others-agree : (woken other xs : List Sleeper) → ((k : ℕ) → is_among k woken ≡ is_among k other) → others_than woken xs ≡ others_than other xs
others-agree woken other xs h = filter_agree (λ (s : Sleeper). not (is_among s.thread woken)) (λ (s : Sleeper). not (is_among s.thread other))
    (λ s. ap not (h s.thread)) xs

pub others-swap : (woken other xs : List Sleeper) → others_than woken (others_than other xs) ≡ others_than other (others_than woken xs)
others-swap woken other xs = filter-swap (λ (s : Sleeper). not (is_among s.thread woken)) (λ (s : Sleeper). not (is_among s.thread other)) xs

-- who sleeps once sleeps at one address

not-later : (k : ℕ) (s : Sleeper) (xs : List Sleeper) → SleepOnce (s ∷ xs) → s.thread ≡ k → is_among k xs ≡ true → ⊥
not-later k s xs once e is = both_ways (is_among s.thread xs) once.0 (subst (λ j. is_among j xs ≡ true) (sym e) is)

pub one-address : (k a b : ℕ) (xs : List Sleeper) → SleepOnce xs → is_among k (sleepers_at a xs) ≡ true → is_among k (sleepers_at b xs) ≡ true → a ≡ b
one-address k a b [] once h g = absurd (true≢false (sym h))
one-address k a b (s ∷ xs) once h g = elim (at a h) [
  | inl here ↦ elim (at b g) [
    | inl too ↦ sym here.0 ∙ too.0
    | inr later ↦ absurd (not-later k s xs once here.1 (list_any-filtered (λ (t : Sleeper). t.addr == b) (λ (t : Sleeper). t.thread == k) xs later))
  ]
  | inr later ↦ elim (at b g) [
    | inl here ↦ absurd (not-later k s xs once here.1 (list_any-filtered (λ (t : Sleeper). t.addr == a) (λ (t : Sleeper). t.thread == k) xs later))
    | inr too ↦ one-address k a b xs once.1 later too
  ]
]
  where
    at : (c : ℕ) → is_among k (sleepers_at c (s ∷ xs)) ≡ true → ((s.addr ≡ c) × (s.thread ≡ k)) ⊎ (is_among k (sleepers_at c xs) ≡ true)
    at c q =
        cond_both (s.addr == c) (s ∷ sleepers_at c xs) (sleepers_at c xs)
        (λ w. is_among k w ≡ true → ((s.addr ≡ c) × (s.thread ≡ k)) ⊎ (is_among k (sleepers_at c xs) ≡ true))
        (λ e r. (elim (or_cases (s.thread == k) (is_among k (sleepers_at c xs)) r) [
          | inl here ↦ inl (eqb-true s.addr c e, eqb-true s.thread k here)
          | inr later ↦ inr later
        ])) (λ e r. inr r) q

-- so a notify at one address leaves another one's list
none-woken : (addr count other : ℕ) (xs ys : List Sleeper) → SleepOnce xs → (addr ≡ other → ⊥)
    → ((k : ℕ) → is_among k ys ≡ true → is_among k (sleepers_at other xs) ≡ true)
    → list_any (λ (s : Sleeper). not (not (is_among s.thread (take count (sleepers_at addr xs))))) ys ≡ false
none-woken addr count other xs [] once apart h = refl
none-woken addr count other xs (s ∷ ys) once apart h =
    let woken = take count (sleepers_at addr xs) in
    or_from (not (not (is_among s.thread woken))) (list_any (λ (t : Sleeper). not (not (is_among t.thread woken))) ys)
    (ap (λ t. not (not t)) (false_from_ne_true (is_among s.thread woken) (λ is.
    apart (one-address s.thread addr other xs once (list_any-take (λ (t : Sleeper). t.thread == s.thread) count (sleepers_at addr xs) is)
    (h s.thread (or_left (s.thread == s.thread) (is_among s.thread ys) (eq-eqb s.thread s.thread refl)))))))
    (none-woken addr count other xs ys once apart (λ k is. h k (or_right (s.thread == k) (is_among k ys) is)))

pub left-there : (addr count other : ℕ) (xs : List Sleeper) → SleepOnce xs → (addr ≡ other → ⊥)
    → sleepers_at other (others_than (take count (sleepers_at addr xs)) xs) ≡ sleepers_at other xs
left-there addr count other xs once apart =
    others-at other (take count (sleepers_at addr xs)) xs
    ∙ filter-all (λ (s : Sleeper). not (is_among s.thread (take count (sleepers_at addr xs)))) (sleepers_at other xs)
    (none-woken addr count other xs (sleepers_at other xs) once apart (λ k is. is))

-- who falls asleep at one address isn't at another one
pub slept-there : (s : Sleeper) (other : ℕ) (xs : List Sleeper) → (s.addr ≡ other → ⊥) → sleepers_at other (xs ++ s ∷ []) ≡ sleepers_at other xs
slept-there s other xs apart =
    filter-append (λ (t : Sleeper). t.addr == other) xs (s ∷ [])
    ∙ (ap (λ t. sleepers_at other xs ++ cond t (s ∷ []) []) (ne_eqb s.addr other apart) ∙ append-none (sleepers_at other xs))
  where
    append-none : (zs : List Sleeper) → zs ++ [] ≡ zs
    append-none [] = refl
    append-none (z ∷ zs) = ap (λ w. z ∷ w) (append-none zs)
