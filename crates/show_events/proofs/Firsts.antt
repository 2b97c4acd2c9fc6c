-- Where threads have their first entries, as entries are gone through.
use Rattle.std.proofs.Common.{◌≡◌, ◌∙◌, ℕ, ◌+◌, ◌<◌, ◌≤◌, List, length, replicate, Option, Some, None, option_map}
use Rattle.std.proofs.Common.{inl, inr, refl, sym, ap, subst, arith, get_or, slice_get, slice_set, below_more}
use Rattle.std.proofs.lemmas.Bool.{cases_eq, cases_lt}
use Rattle.std.proofs.lemmas.Option.{slice_get-get_or, slice_get_past}
use Rattle.types.specs.declared.event.Entry.{Entry}
use Rattle.types.specs.declared.limits.TheConstants.{MOST_THREADS}
use Rattle.show_events.specs.Links.{thread_at, IsFirstOf, AreFirsts, noted_first, first_by}
use Rattle.show_events.proofs.Places.{set_is, set_other, replicate_is}

-- What the first entries say.
abbrev pub IsSeenOf : List Entry → ℕ → ℕ → Option ℕ → Type 0
IsSeenOf log upto thread None = (at : ℕ) → at < upto → thread_at log at ≡ Some thread → ⊥
IsSeenOf log upto thread (Some first) =
    (thread_at log first ≡ Some thread) × ((at : ℕ) → at < first → thread_at log at ≡ Some thread → ⊥)

pub record AreSeen (log : List Entry) (upto : ℕ) (firsts : List (Option ℕ)) : Type 0 where
  each : (thread : ℕ) (first : Option ℕ) → slice_get firsts thread ≡ Some first → IsSeenOf log upto thread first

none_seen : (log : List Entry) (thread : ℕ) (first : Option ℕ) → None ≡ first → IsSeenOf log 0 thread first
none_seen log thread first is = subst (λ (o : Option ℕ). IsSeenOf log 0 thread o) is (λ k lt. absurd (omega (arith, lt)))

pub seen_first : (log : List Entry) (long : ℕ) → AreSeen log 0 (replicate long None)
seen_first log long = record { each = λ thread first is. none_seen log thread first (replicate_is long None thread first is) }

kept : (log : List Entry) (upto thread : ℕ) (first : Option ℕ) → IsSeenOf log upto thread first
    → (thread_at log upto ≡ Some thread → ⊥) → IsSeenOf log (upto + 1) thread first
kept log upto thread (Some first) seen never = seen
kept log upto thread None seen never = below_more (λ k. thread_at log k ≡ Some thread → ⊥) upto seen never

same_thread : (o : Option ℕ) (t thread : ℕ) → o ≡ Some t → o ≡ Some thread → thread ≡ t
same_thread o t thread a b = cc

one_first : (o : Option (Option ℕ)) (first : Option ℕ) (k : ℕ) → o ≡ Some (Some k) → o ≡ Some first → Some k ≡ first
one_first o first k a b = cc

no_first : (o : Option (Option ℕ)) (first : Option ℕ) → o ≡ None → o ≡ Some first → ⊥
no_first o first a b = cc

-- Of another thread nothing changes.
other : (log : List Entry) (upto t thread : ℕ) (first : Option ℕ) → thread_at log upto ≡ Some t → (thread ≡ t → ⊥)
    → IsSeenOf log upto thread first → IsSeenOf log (upto + 1) thread first
other log upto t thread first here apart seen =
    kept log upto thread first seen (λ e. apart (same_thread (thread_at log upto) t thread here e))

by_first : (log : List Entry) (upto t : ℕ) (firsts : List (Option ℕ)) (o : Option (Option ℕ)) → slice_get firsts t ≡ o
    → thread_at log upto ≡ Some t → AreSeen log upto firsts → (thread : ℕ) (first : Option ℕ)
    → slice_get (first_by o t upto firsts) thread ≡ Some first → IsSeenOf log (upto + 1) thread first
by_first log upto t firsts None was here seen thread first is =
    elim (cases_eq thread t) [
      | inl same ↦ absurd (no_first (slice_get firsts t) first was (subst (λ (k : ℕ). slice_get firsts k ≡ Some first) same is))
      | inr apart ↦ other log upto t thread first here apart (seen.each thread first is)
    ]
by_first log upto t firsts (Some (Some k)) was here seen thread first is =
    elim (cases_eq thread t) [
      | inl same ↦ (let e : Some k ≡ first = one_first (slice_get firsts t) first k was (subst (λ (n : ℕ). slice_get firsts n ≡ Some first) same is) in
          let known : IsSeenOf log upto thread (Some k) = seen.each thread (Some k) (ap (slice_get firsts) same ∙ was) in
          subst (λ (x : Option ℕ). IsSeenOf log (upto + 1) thread x) e known)
      | inr apart ↦ other log upto t thread first here apart (seen.each thread first is)
    ]
by_first log upto t firsts (Some None) was here seen thread first is =
    elim (cases_eq thread t) [
      | inl same ↦ (let is_here = subst (λ (n : ℕ). slice_get (slice_set firsts t (Some upto)) n ≡ Some first) same is in
          let e : Some upto ≡ first = set_is firsts t (Some upto) first is_here in
          let known : IsSeenOf log upto t None = seen.each t None was in
          let found : IsSeenOf log (upto + 1) t (Some upto) = (here, known) in
          subst (λ (x : Option ℕ). IsSeenOf log (upto + 1) thread x) e (subst (λ (n : ℕ). IsSeenOf log (upto + 1) n (Some upto)) (sym same) found))
      | inr apart ↦ other log upto t thread first here apart
          (seen.each thread first (sym (set_other firsts t thread (Some upto) apart) ∙ is))
    ]

pub seen_next : (log : List Entry) (upto : ℕ) (d : Entry) (firsts new : List (Option ℕ)) → upto < length log
    → AreSeen log upto firsts → new ≡ noted_first (get_or log upto d).thread upto firsts → AreSeen log (upto + 1) new
seen_next log upto d firsts new lt seen e =
    let thread : ℕ = (get_or log upto d).thread in
    let of : thread_at log upto ≡ Some thread = ap (option_map (λ (z : Entry). z.thread)) (slice_get-get_or log upto d lt) in
    subst (AreSeen log (upto + 1)) (sym e)
    (record { each = by_first log upto thread firsts (slice_get firsts thread) refl of seen })

past : (log : List Entry) (at thread : ℕ) → length log ≤ at → thread_at log at ≡ Some thread → ⊥
past log at thread le is = cc (ap (option_map (λ (z : Entry). z.thread)) (slice_get_past log at le))

of_all : (log : List Entry) (upto thread : ℕ) (first : Option ℕ) → length log ≤ upto → IsSeenOf log upto thread first
    → IsFirstOf log thread first
of_all log upto thread (Some first) le seen = seen
of_all log upto thread None le seen = λ at is. seen at (within log at thread upto le is) is
  where
    within : (log : List Entry) (at thread upto : ℕ) → length log ≤ upto → thread_at log at ≡ Some thread → at < upto
    within log at thread upto le is = elim (cases_lt at upto) [
      | inl lt ↦ lt
      | inr ge ↦ absurd (past log at thread (omega (arith, le, ge)) is)
    ]

pub seen_all : (log : List Entry) (upto : ℕ) (firsts : List (Option ℕ)) → length log ≤ upto → length firsts ≡ MOST_THREADS
    → AreSeen log upto firsts → AreFirsts log firsts
seen_all log upto firsts le is seen = record {
  long_is = is;
  each = λ thread first e. of_all log upto thread first le (seen.each thread first e);
}
