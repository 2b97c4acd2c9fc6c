-- Which question is open behind one more entry, and what the contexts are then.
use Rattle.std.proofs.Common.{◌≡◌, ◌∙◌, ◌⊎◌, ◌<◌, ◌≤◌, ◌+◌, ◌≢◌, ℕ, List, Option, Some, None, length, get_or, inl, inr}
use Rattle.std.proofs.Common.{refl, sym, ap, subst, arith, slice_set, option_and_then}
use Rattle.std.specs.List.{slice_get}
use Rattle.std.proofs.lemmas.Bool.{cases_eq, cases_lt}
use Rattle.std.proofs.lemmas.List.{get_or-set_other, get_or-set_same, length-set}
use Rattle.std.proofs.lemmas.Option.{none-some, option_and_then_some, same_Some, slice_get-get_or, slice_get_past, slice_get_within}
use Rattle.types.specs.declared.event.Event.{Event}
use Rattle.types.specs.declared.event.Event.TheVariants.{Ask, Told}
use Rattle.types.specs.declared.event.Question.{Question}
use Rattle.types.specs.declared.event.Answer.{Answer}
use Rattle.types.specs.declared.event.Entry.{Entry}
use Rattle.show_text.specs.declared.context.Context.{Context}
use Rattle.show_text.specs.declared.context.Context.TheVariants.{Alone, Answered, Asked}
use Rattle.show_text.specs.Contexts.{IsOf, IsCall, IsQuiet, IsAnswered, IsContext, AreContexts, IsOpen, IsOpenAt, AreOpen, ask_in}

set_same : {X : Type 0} (xs : List X) (n : ℕ) (y : X) → n < length xs → slice_get (slice_set xs n y) n ≡ Some y
set_same xs n y lt =
    let lt2 : n < length (slice_set xs n y) = omega (arith, length-set xs n y) in
    slice_get-get_or (slice_set xs n y) n y lt2 ∙ ap (λ z. Some z) (get_or-set_same xs n y y lt)

set_other : {X : Type 0} (xs : List X) (n m : ℕ) (y : X) → m ≢ n → slice_get (slice_set xs n y) m ≡ slice_get xs m
set_other xs n m y apart =
    elim (cases_lt m (length xs)) [
      | inl lt ↦ (let lt2 : m < length (slice_set xs n y) = omega (arith, length-set xs n y) in
          slice_get-get_or (slice_set xs n y) m y lt2 ∙ (ap (λ z. Some z) (get_or-set_other xs n m y y apart) ∙ sym (slice_get-get_or xs m y lt)))
      | inr le ↦ (let le2 : length (slice_set xs n y) ≤ m = omega (arith, length-set xs n y) in
          slice_get_past (slice_set xs n y) m le2 ∙ sym (slice_get_past xs m le))
    ]

set_past : {X : Type 0} (xs : List X) (n m : ℕ) (x y : X) → slice_get (slice_set xs n y) m ≡ Some x → m < length xs
set_past xs n m x y is = omega (arith, length-set xs n y, slice_get_within (slice_set xs n y) m x is)

abbrev pub IsTold : Event → Type 0
IsTold (Told a) = Unit {0}
IsTold e = ⊥

not_some : {X : Type 0} (o : Option X) → ((x : X) → o ≡ Some x → ⊥) → o ≡ None
not_some None h = refl
not_some (Some x) h = absurd (h x refl)

module _ (log : List Entry) (n : ℕ) (m : Entry) (is : slice_get log n ≡ Some m) where
  thread_here : (t : ℕ) (e : Event) → IsOf log t n e → m.thread ≡ t
  thread_here t e (made, at, thread, event) = subst (λ (x : Entry). x.thread ≡ t) (same_Some made m (sym at ∙ is)) thread

  event_here : (t : ℕ) (e : Event) → IsOf log t n e → m.event ≡ e
  event_here t e (made, at, thread, event) = subst (λ (x : Entry). x.event ≡ e) (same_Some made m (sym at ∙ is)) event

  here : IsOf log m.thread n m.event
  here = (m, is, refl, refl)

  -- the thread is as quiet as before, if this is no call of it
  quiet_more : (t from : ℕ) → (m.thread ≡ t → IsCall m.event → ⊥) → IsQuiet log t from n → IsQuiet log t from (n + 1)
  quiet_more t from none quiet at e lo hi of call = elim (cases_eq at n) [
    | inl same ↦ let of_n : IsOf log t n e = subst (λ (k : ℕ). IsOf log t k e) same of in
        none (thread_here t e of_n) (subst IsCall (sym (event_here t e of_n)) call)
    | inr apart ↦ let lt : at < n = omega (arith, hi, apart) in quiet at e lo lt of call
  ]

  -- a question that is open behind it was open before it, if this is no call of the thread
  open_before : (t asked : ℕ) → (m.thread ≡ t → IsCall m.event → ⊥) → IsOpen log t (n + 1) asked → IsOpen log t n asked
  open_before t asked none h = elim (cases_eq asked n) [
    | inl same ↦ let of_n : IsOf log t n (Ask h.question) = subst (λ (k : ℕ). IsOf log t k (Ask h.question)) same h.asks in
        absurd (none (thread_here t (Ask h.question) of_n) (subst IsCall (sym (event_here t (Ask h.question) of_n)) tt))
    | inr apart ↦ record {
      before = omega (arith, h.before, apart);
      question = h.question;
      asks = h.asks;
      quiet = λ at e lo hi. h.quiet at e lo (omega arith);
    }
  ]

  open_keeps : (t : ℕ) (o : Option ℕ) → (m.thread ≡ t → IsCall m.event → ⊥) → IsOpenAt log t n o → IsOpenAt log t (n + 1) o
  open_keeps t None none h = λ asked more. h asked (open_before t asked none more)
  open_keeps t (Some asked) none h = record {
    before = omega (arith, h.before);
    question = h.question;
    asks = h.asks;
    quiet = quiet_more t asked none h.quiet;
  }

  pub open_after : (q : Question) → m.event ≡ Ask q → IsOpen log m.thread (n + 1) n
  open_after q asks = record {
    before = omega arith;
    question = q;
    asks = (m, is, refl, asks);
    quiet = λ at e lo hi of call. absurd (omega (arith, lo, hi));
  }

  -- what was asked before an answer isn't open behind it
  pub closed : (a : Answer) → m.event ≡ Told a → (asked : ℕ) → IsOpen log m.thread (n + 1) asked → ⊥
  closed a tells asked h = elim (cases_eq asked n) [
    | inl same ↦ let of_n : IsOf log m.thread n (Ask h.question) = subst (λ (k : ℕ). IsOf log m.thread k (Ask h.question)) same h.asks in
        subst IsTold (sym tells ∙ event_here m.thread (Ask h.question) of_n) tt
    | inr apart ↦ h.quiet n m.event (omega (arith, h.before, apart)) (omega arith) here (subst IsCall (sym tells) tt)
  ]

  -- of all threads
  pub opens_keep : (places : List (Option ℕ)) → (IsCall m.event → ⊥) → AreOpen log n places → AreOpen log (n + 1) places
  opens_keep places none opens t o at = open_keeps t o (λ same. none) (opens t o at)

  pub opens_set : (places : List (Option ℕ)) (o : Option ℕ) → IsOpenAt log m.thread (n + 1) o → AreOpen log n places
      → AreOpen log (n + 1) (slice_set places m.thread o)
  opens_set places o new opens t x at = elim (cases_eq t m.thread) [
    | inl same ↦ (let lt = set_past places m.thread t x o at in
        let e : o ≡ x = same_Some o x (sym (set_same places m.thread o (omega (arith, lt, same))) ∙
        subst (λ (k : ℕ). slice_get (slice_set places m.thread o) k ≡ Some x) same at) in
        subst (λ (k : ℕ). IsOpenAt log k (n + 1) x) (sym same) (subst (IsOpenAt log m.thread (n + 1)) e new))
    | inr apart ↦ open_keeps t x (λ same call. apart (sym same)) (opens t x (sym (set_other places m.thread t o apart) ∙ at))
  ]

  -- an answer here is that to the question that was open
  was_open : (t asked : ℕ) (q : Question) (a : Answer) → IsAnswered log t asked n q a → IsOpen log t n asked
  was_open t asked q a h = record { before = h.before; question = q; asks = h.asks; quiet = h.quiet }

  module _ (threads : ℕ) where
    -- nothing is answered here of what was alone
    context_keeps : (at : ℕ) (c : Context)
        → ((t : ℕ) (asked : ℕ) (q : Question) (a : Answer) → t < threads → IsAnswered log t asked n q a → (at ≡ asked) ⊎ (at ≡ n) → ⊥)
        → IsContext log threads n at c → IsContext log threads (n + 1) at c
    context_keeps at (Answered answer) none (t, told, q, within, lt, h) = (t, told, q, within, omega (arith, lt), h)
    context_keeps at (Asked question asked) none (t, a, within, lt, h) = (t, a, within, omega (arith, lt), h)
    context_keeps at Alone none alone = λ t other q a within. (
      (λ lt h. elim (cases_eq other n) [
        | inl same ↦ none t at q a within (subst (λ (k : ℕ). IsAnswered log t at k q a) same h) (inl refl)
        | inr apart ↦ (alone t other q a within).0 (omega (arith, lt, apart)) h
      ]),
      (λ lt h. elim (cases_eq at n) [
        | inl same ↦ none t other q a within (subst (λ (k : ℕ). IsAnswered log t other k q a) same h) (inr same)
        | inr apart ↦ (alone t other q a within).1 (omega (arith, lt, apart)) h
      ]),
    )

    pub contexts_keep : (contexts : List Context)
        → ((t : ℕ) (asked : ℕ) (q : Question) (a : Answer) → t < threads → IsAnswered log t asked n q a → ⊥)
        → AreContexts log threads n contexts → AreContexts log threads (n + 1) contexts
    contexts_keep contexts none h = record {
      long = h.long;
      each = λ at c is. context_keeps at c (λ t asked q a within answered place. none t asked q a within answered) (h.each at c is);
    }

    pub no_answer : (IsTold m.event → ⊥) → (t asked : ℕ) (q : Question) (a : Answer) → IsAnswered log t asked n q a → ⊥
    no_answer none t asked q a h = none (subst IsTold (sym (event_here t (Told a) h.tells)) tt)

    pub told_none : (a : Answer) (places : List (Option ℕ)) (contexts : List Context) → m.event ≡ Told a → threads ≡ length places
        → AreOpen log n places → ((asked : ℕ) → option_and_then (λ o. o) (slice_get places m.thread) ≡ Some asked → ⊥)
        → AreContexts log threads n contexts → AreContexts log threads (n + 1) contexts
    told_none a places contexts tells many opens closed_now h =
        contexts_keep contexts (λ t asked q b within answered.
        let same = thread_here t (Told b) answered.tells in
        let lt : m.thread < length places = omega (arith, within, many, same) in
        let at = slice_get-get_or places m.thread None lt in
        let none : get_or places m.thread None ≡ None = not_some (get_or places m.thread None) (λ x is. closed_now x (ap (option_and_then (λ o. o)) at ∙ is)) in
        opens m.thread None (at ∙ ap (λ o. Some o) none) asked (subst (λ (k : ℕ). IsOpen log k n asked) (sym same) (was_open t asked q b answered))) h

    -- a question that is open is open once
    only : (t p r : ℕ) → IsOpen log t n p → IsOpen log t n r → p ≡ r
    only t p r x y = elim (cases_lt p r) [
      | inl lt ↦ absurd (x.quiet r (Ask y.question) lt y.before y.asks tt)
      | inr le ↦ elim (cases_eq p r) [
        | inl same ↦ same
        | inr apart ↦ absurd (y.quiet p (Ask x.question) (omega (arith, le, apart)) x.before x.asks tt)
      ]
    ]

    pub told_some : (a : Answer) (q : Question) (p : ℕ) (contexts : List Context) → m.event ≡ Told a → m.thread < threads
        → IsOpen log m.thread n p → IsOf log m.thread p (Ask q) → AreContexts log threads n contexts
        → AreContexts log threads (n + 1) (slice_set (slice_set contexts p (Answered a)) n (Asked q p))
    told_some a q p contexts tells within opened asks h =
        let first = slice_set contexts p (Answered a) in
        let answered : IsAnswered log m.thread p n q a = record { before = opened.before; asks = asks; tells = (m, is, refl, tells); quiet = opened.quiet } in
        let n_in = slice_get_within log n m is in
        let long = h.long in
        let long_first = length-set contexts p (Answered a) in
        let before = opened.before in
        record {
          long = length-set first n (Asked q p) ∙ (long_first ∙ long);
          each = λ at c is_c. elim (cases_eq at n) [
            | inl same ↦
                let e : Asked q p ≡ c = same_Some (Asked q p) c (sym (set_same first n (Asked q p) (omega (arith, n_in, long, long_first))) ∙
                subst (λ (k : ℕ). slice_get (slice_set first n (Asked q p)) k ≡ Some c) same is_c) in
                subst (IsContext log threads (n + 1) at) e (
                  m.thread,
                  a,
                  within,
                  omega (arith, same),
                  subst (λ (k : ℕ). IsAnswered log m.thread p k q a)
                      (sym same) answered,
                )
            | inr apart ↦ (let is_first = sym (set_other first n at (Asked q p) apart) ∙ is_c in
                elim (cases_eq at p) [
                  | inl same ↦
                      let e : Answered a ≡ c = same_Some (Answered a) c (sym (set_same contexts p (Answered a) (omega (arith, n_in, long, before))) ∙
                      subst (λ (k : ℕ). slice_get first k ≡ Some c) same is_first) in
                      subst (IsContext log threads (n + 1) at) e (
                        m.thread,
                        n,
                        q,
                        within,
                        omega arith,
                        subst (λ (k : ℕ). IsAnswered log m.thread k n q a)
                            (sym same) answered,
                      )
                  | inr other ↦ context_keeps at c (λ t asked r b lt h2 place. elim place [
                    | inl here_asked ↦ other (here_asked ∙ only m.thread asked p
                        (subst (λ (k : ℕ). IsOpen log k n asked) (sym (thread_here t (Told b) h2.tells)) (was_open t asked r b h2)) opened)
                    | inr here_told ↦ apart here_told
                  ]) (h.each at c (sym (set_other contexts p at (Answered a) other) ∙ is_first))
                ])
          ];
        }

module _ (log : List Entry) (n t : ℕ) (a : Answer) (places : List (Option ℕ)) (contexts : List Context) (told : IsOf log t n (Told a))
    (opens : AreOpen log n places) (h : AreContexts log (length places) n contexts) where
  pub answered_none : option_and_then (λ o. o) (slice_get places t) ≡ None → AreContexts log (length places) (n + 1) contexts
  answered_none none = told_none log n told.0 told.1 (length places) a places contexts told.3 refl opens
      (λ asked some. none-some asked (sym none ∙ subst (λ (k : ℕ). option_and_then (λ o. o) (slice_get places k) ≡ Some asked) told.2 some)) h

  module _ (p : ℕ) (some : option_and_then (λ o. o) (slice_get places t) ≡ Some p) where
    at_place : slice_get places t ≡ Some (Some p)
    at_place = option_and_then_some (λ o. o) (slice_get places t) p some (λ x is here. is ∙ ap (λ z. Some z) here)

    opened : IsOpen log t n p
    opened = opens t (Some p) at_place

    asked_event : (o : Option Question) → option_and_then (λ made. ask_in made.event) (slice_get log p) ≡ o → Some opened.question ≡ o
    asked_event o is = let asks = opened.asks in
        sym (ap (option_and_then (λ made. ask_in made.event)) asks.1 ∙ ap ask_in asks.3) ∙ is

    pub answered_nothing : option_and_then (λ made. ask_in made.event) (slice_get log p) ≡ None → ⊥
    answered_nothing none = none-some opened.question (sym (asked_event None none))

    pub answered_some : (q : Question) → option_and_then (λ made. ask_in made.event) (slice_get log p) ≡ Some q
        → AreContexts log (length places) (n + 1) (slice_set (slice_set contexts p (Answered a)) n (Asked q p))
    answered_some q is =
        let same : opened.question ≡ q = same_Some opened.question q (asked_event (Some q) is) in
        let asks : IsOf log t p (Ask q) = subst (λ (x : Question). IsOf log t p (Ask x)) same opened.asks in
        told_some log n told.0 told.1 (length places) a q p contexts told.3
        (subst (λ (k : ℕ). k < length places) (sym told.2) (slice_get_within places t (Some p) at_place))
        (subst (λ (k : ℕ). IsOpen log k n p) (sym told.2) opened) (subst (λ (k : ℕ). IsOf log k p (Ask q)) (sym told.2) asks) h

-- Where a thread has its open question there is a context, and where it is told.
pub room : (log : List Entry) (n t threads : ℕ) (a : Answer) (contexts : List Context) → IsOf log t n (Told a)
    → AreContexts log threads n contexts → n < length contexts
room log n t threads a contexts told h = omega (arith, slice_get_within log n told.0 told.1, h.long)

pub room_before : (log : List Entry) (n t p : ℕ) (a : Answer) (places : List (Option ℕ)) (contexts : List Context)
    → IsOf log t n (Told a) → AreOpen log n places → AreContexts log (length places) n contexts
    → option_and_then (λ o. o) (slice_get places t) ≡ Some p → p < length contexts
room_before log n t p a places contexts told opens h some =
    omega (arith, room log n t (length places) a contexts told h, (opened log n t a places contexts told opens h p some).before)

pub no_call : (e : Event) → ((q : Question) → e ≡ Ask q → ⊥) → ((a : Answer) → e ≡ Told a → ⊥) → IsCall e → ⊥
no_call (Ask q) asks tells call = asks q refl
no_call (Told a) asks tells call = tells a refl
no_call _ asks tells call = call

pub no_told : (e : Event) → (IsCall e → ⊥) → IsTold e → ⊥
no_told (Told a) none told = none tt
no_told _ none told = told
