-- Where questions are answered, as entries are gone through; and how long entries are.
use Rattle.std.proofs.Common.{◌≡◌, ◌∙◌, ℕ, ◌+◌, ◌-◌, ◌<◌, ◌≤◌, Bool, true, false, max, List, length, replicate, Option, Some, None}
use Rattle.std.proofs.Common.{inl, inr, refl, sym, ap, subst, arith, get_or, slice_get, slice_set, below_more, option_and_then}
use Rattle.std.proofs.lemmas.Bool.{cases_eq}
use Rattle.std.proofs.lemmas.Option.{slice_get_within, slice_get-get_or}
use Rattle.types.specs.declared.event.Event.TheVariants.{Ask}
use Rattle.types.specs.declared.event.Question.{Question}
use Rattle.types.specs.declared.event.Answer.{Answer}
use Rattle.types.specs.declared.event.Entry.{Entry}
use Rattle.types.specs.declared.limits.TheConstants.{MOST_THREADS}
use Rattle.show_text.specs.declared.context.Context.{Context}
use Rattle.show_text.specs.declared.context.Context.TheVariants.{Alone, Answered, Asked}
use Rattle.show_text.specs.Contexts.{AreContexts}
use Rattle.show_events.specs.Links.{IsAnswerTo, IsAnswerAt, AreAnswers, noted_answer, is_wait, is_wait_over, Lasts, in_list}
use Rattle.show_events.proofs.Places.{set_is, set_other, replicate_is}

-- What the first entries say.
abbrev pub IsKnownAt : List Context → ℕ → ℕ → Option ℕ → Type 0
IsKnownAt contexts upto asked None = (told : ℕ) → told < upto → IsAnswerTo contexts asked told → ⊥
IsKnownAt contexts upto asked (Some told) = IsAnswerTo contexts asked told

pub record AreKnown (contexts : List Context) (upto : ℕ) (answers : List (Option ℕ)) : Type 0 where
  each : (at : ℕ) (told : Option ℕ) → slice_get answers at ≡ Some told → IsKnownAt contexts upto at told

none_known : (contexts : List Context) (at : ℕ) (told : Option ℕ) → None ≡ told → IsKnownAt contexts 0 at told
none_known contexts at told is = subst (λ (o : Option ℕ). IsKnownAt contexts 0 at o) is (λ k lt. absurd (omega (arith, lt)))

pub known_first : (contexts : List Context) (long : ℕ) → AreKnown contexts 0 (replicate long None)
known_first contexts long = record { each = λ at told is. none_known contexts at told (replicate_is long None at told is) }

kept : (contexts : List Context) (upto at : ℕ) (told : Option ℕ) → IsKnownAt contexts upto at told
    → (IsAnswerTo contexts at upto → ⊥) → IsKnownAt contexts (upto + 1) at told
kept contexts upto at (Some told) known never = known
kept contexts upto at None known never = below_more (λ k. IsAnswerTo contexts at k → ⊥) upto known never

alone_no : (o : Option Context) (q : Question) (at : ℕ) → o ≡ Some Alone → o ≡ Some (Asked q at) → ⊥
alone_no o q at a b = cc

answered_no : (o : Option Context) (q : Question) (at : ℕ) (a : Answer) → o ≡ Some (Answered a) → o ≡ Some (Asked q at) → ⊥
answered_no o q at a e f = cc

asked_same : (o : Option Context) (p q : Question) (x y : ℕ) → o ≡ Some (Asked p x) → o ≡ Some (Asked q y) → y ≡ x
asked_same o p q x y e f = cc

noted : (contexts : List Context) (upto : ℕ) (c : Context) (answers : List (Option ℕ)) → slice_get contexts upto ≡ Some c
    → AreKnown contexts upto answers → (at : ℕ) (told : Option ℕ) → slice_get (noted_answer c upto answers) at ≡ Some told
    → IsKnownAt contexts (upto + 1) at told
noted contexts upto Alone answers here known at told is =
    kept contexts upto at told (known.each at told is) (λ p. alone_no (slice_get contexts upto) p.0 at here p.1)
noted contexts upto (Answered a) answers here known at told is =
    kept contexts upto at told (known.each at told is) (λ p. answered_no (slice_get contexts upto) p.0 at a here p.1)
noted contexts upto (Asked question asked) answers here known at told is =
    elim (cases_eq at asked) [
      | inl same ↦ (let is_here = subst (λ (k : ℕ). slice_get (slice_set answers asked (Some upto)) k ≡ Some told) same is in
          let e : Some upto ≡ told = set_is answers asked (Some upto) told is_here in
          let to : IsAnswerTo contexts at upto = subst (λ (k : ℕ). IsAnswerTo contexts k upto) (sym same) (question, here) in
          subst (λ (o : Option ℕ). IsKnownAt contexts (upto + 1) at o) e to)
      | inr apart ↦ kept contexts upto at told (known.each at told (sym (set_other answers asked at (Some upto) apart) ∙ is))
          (λ p. apart (asked_same (slice_get contexts upto) question p.0 asked at here p.1))
    ]

pub known_next : (contexts : List Context) (upto : ℕ) (d : Context) (answers new : List (Option ℕ)) → upto < length contexts
    → AreKnown contexts upto answers → new ≡ noted_answer (get_or contexts upto d) upto answers → AreKnown contexts (upto + 1) new
known_next contexts upto d answers new lt known e =
    subst (AreKnown contexts (upto + 1)) (sym e)
    (record { each = noted contexts upto (get_or contexts upto d) answers (slice_get-get_or contexts upto d lt) known })

at_all : (contexts : List Context) (upto at : ℕ) (told : Option ℕ) → length contexts ≤ upto → IsKnownAt contexts upto at told
    → IsAnswerAt contexts at told
at_all contexts upto at (Some told) le known = known
at_all contexts upto at None le known =
    λ told p. known told (omega (arith, le, slice_get_within contexts told (Asked p.0 at) p.1)) p

pub known_all : (contexts : List Context) (upto long : ℕ) (answers : List (Option ℕ)) → length contexts ≤ upto
    → length answers ≡ long → AreKnown contexts upto answers → AreAnswers contexts long answers
known_all contexts upto long answers le is known = record {
  long_is = is;
  each = λ at told e. at_all contexts upto at told le (known.each at told e);
}

-- The same question is asked at a place, whoever answers it.
same_made : (o : Option Entry) (a b : Entry) → o ≡ Some a → o ≡ Some b → a ≡ b
same_made o a b e f = cc

same_asked : (a b : Entry) (p q : Question) → a ≡ b → a.event ≡ Ask p → b.event ≡ Ask q → p ≡ q
same_asked a b p q e x y = cc (ap (λ (z : Entry). z.event) e)

one_question : (log : List Entry) (contexts : List Context) → AreContexts log MOST_THREADS (length log) contexts → (at x y : ℕ)
    (p q : Question) → slice_get contexts x ≡ Some (Asked p at) → slice_get contexts y ≡ Some (Asked q at) → p ≡ q
one_question log contexts are at x y p q e f =
    let a = (are.each x (Asked p at) e).4.asks in
    let b = (are.each y (Asked q at) f).4.asks in
    same_asked a.0 b.0 p q (same_made (slice_get log at) a.0 b.0 a.1 b.1) a.3 b.3

-- What a list of places has at one.
listed : (o : Option (Option ℕ)) (told : ℕ) → option_and_then (λ place. place) o ≡ Some told → o ≡ Some (Some told)
listed None told is = absurd (cc is)
listed (Some None) told is = absurd (cc is)
listed (Some (Some k)) told is = cc

not_listed : (o : Option (Option ℕ)) (x : Option ℕ) → option_and_then (λ place. place) o ≡ None → o ≡ Some x → x ≡ None
not_listed None x none is = absurd (cc is)
not_listed (Some None) x none is = cc
not_listed (Some (Some k)) x none is = absurd (cc none)

pub in_same : (xs ys : List (Option ℕ)) (at : ℕ) (r o : Option ℕ) → xs ≡ ys → r ≡ in_list xs at → r ≡ o → in_list ys at ≡ o
in_same xs ys at r o e is was = ap (λ (l : List (Option ℕ)). in_list l at) (sym e) ∙ (sym is ∙ was)

pub lasts_alone : (contexts : List Context) (long at : ℕ) (answers : List (Option ℕ)) → AreAnswers contexts long answers → at < long
    → in_list answers at ≡ None → Lasts contexts at 1
lasts_alone contexts long at answers are lt none =
    let here : slice_get answers at ≡ Some (get_or answers at None) = slice_get-get_or answers at None (omega (arith, lt, are.long_is)) in
    let is : get_or answers at None ≡ None = not_listed (slice_get answers at) (get_or answers at None) none here in
    let never : (told : ℕ) → IsAnswerTo contexts at told → ⊥ = are.each at None (here ∙ ap (λ (o : Option ℕ). Some o) is) in
    inr (λ told ends. never told ends.answer, refl)

over_asked : (o : Option Context) (q : Question) (at : ℕ) (b : Bool) → o ≡ Some (Asked q at) → b ≡ is_wait_over o → is_wait q ≡ b
over_asked o q at b e f = sym (f ∙ ap is_wait_over e)

both_ways : (b : Bool) → b ≡ true → b ≡ false → ⊥
both_ways b t f = cc

pub lasts_plain : (log : List Entry) (contexts : List Context) (at told : ℕ) (answers : List (Option ℕ)) (b : Bool)
    → AreContexts log MOST_THREADS (length log) contexts → AreAnswers contexts (length log) answers
    → in_list answers at ≡ Some told → b ≡ is_wait_over (slice_get contexts told) → b ≡ false → Lasts contexts at 1
lasts_plain log contexts at told answers b are answered is over never =
    let p = answered.each at (Some told) (listed (slice_get answers at) told is) in
    inr (
      λ other ends. both_ways (is_wait p.0)
          (ap is_wait (one_question log contexts are at told other p.0 ends.answer.0 p.1 ends.answer.1) ∙ ends.wait)
          (over_asked (slice_get contexts told) p.0 at b p.1 over ∙ never),
      refl,
    )

pub lasts_wait : (contexts : List Context) (long at told : ℕ) (answers : List (Option ℕ)) (b : Bool)
    → AreAnswers contexts long answers → in_list answers at ≡ Some told → b ≡ is_wait_over (slice_get contexts told)
    → b ≡ true → (n : ℕ) → n ≡ max (told - at) 1 → Lasts contexts at n
lasts_wait contexts long at told answers b answered is over over_it n e =
    let to = answered.each at (Some told) (listed (slice_get answers at) told is) in
    inl (told, record { answer = to; wait = over_asked (slice_get contexts told) to.0 at b to.1 over ∙ over_it }, e)
