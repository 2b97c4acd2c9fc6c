-- The first entry of a thread from the moment on that isn't left out.
use Rattle.std.proofs.Common.{◌≡◌, ◌∙◌, ℕ, ◌+◌, ◌<◌, ◌≤◌, List, length, get_or, Option, Some, None, option_map, inl, inr, ap, subst, arith}
use Rattle.std.proofs.lemmas.Bool.{cases_eq, cases_lt}
use Rattle.std.proofs.lemmas.Option.{slice_get-get_or, slice_get_past}
use Rattle.types.specs.declared.event.Entry.{Entry}
use Rattle.show_moments.specs.Scenes.{Seen, IsBesideAt, IsNextOf, log_of, thread_at}

thread_here : (log : List Entry) (at : ℕ) (d : Entry) → at < length log → thread_at log at ≡ Some (get_or log at d).thread
thread_here log at d lt = ap (option_map (λ (made : Entry). made.thread)) (slice_get-get_or log at d lt)

same_thread : (o : Option ℕ) (a b : ℕ) → o ≡ Some a → o ≡ Some b → a ≡ b
same_thread o a b x y = cc

-- The entry of a place, by the log from which it is read.
pub its_own : (s : Seen) (log : List Entry) (thread at : ℕ) (d : Entry) → log ≡ log_of s → at < length log
    → (get_or log at d).thread ≡ thread → thread_at (log_of s) at ≡ Some thread
its_own s log thread at d same within is = subst (λ (l : List Entry). thread_at l at ≡ Some thread) same
    (thread_here log at d within ∙ ap (λ (t : ℕ). Some t) is)

pub not_own : (s : Seen) (log : List Entry) (thread at : ℕ) (d : Entry) → log ≡ log_of s → at < length log
    → ((get_or log at d).thread ≡ thread → ⊥) → IsBesideAt s thread at → ⊥
not_own s log thread at d same within apart is = apart (same_thread (thread_at (log_of s) at) (get_or log at d).thread thread
    (subst (λ (l : List Entry). thread_at l at ≡ Some (get_or log at d).thread) same (thread_here log at d within)) is.own)

past : (log : List Entry) (at thread : ℕ) → length log ≤ at → thread_at log at ≡ Some thread → ⊥
past log at thread le is = cc (ap (option_map (λ (made : Entry). made.thread)) (slice_get_past log at le))

-- None of the thread from the moment up to a place isn't left out.
abbrev pub HasNoneUpTo : Seen → ℕ → ℕ → Type 0
HasNoneUpTo s thread at = (k : ℕ) → s.moment.at ≤ k → k < at → IsBesideAt s thread k → ⊥

pub none_yet : (s : Seen) (thread : ℕ) → HasNoneUpTo s thread s.moment.at
none_yet s thread = λ k ge lt is. absurd (omega (arith, ge, lt))

pub none_next : (s : Seen) (thread at : ℕ) → (IsBesideAt s thread at → ⊥) → HasNoneUpTo s thread at → HasNoneUpTo s thread (at + 1)
none_next s thread at apart none = λ k ge lt is. elim (cases_eq k at) [
  | inl same ↦ apart (subst (IsBesideAt s thread) same is)
  | inr other ↦ none k ge (omega (arith, lt, other)) is
]

pub next_none : (s : Seen) (log : List Entry) (thread at : ℕ) → log ≡ log_of s → length log ≤ at → HasNoneUpTo s thread at
    → IsNextOf s thread None
next_none s log thread at same le none = λ k ge is. elim (cases_lt k at) [
  | inl lt ↦ none k ge lt is
  | inr far ↦ past (log_of s) k thread (let size = ap length same in omega (arith, le, far, size)) is.own
]

pub next_within : (s : Seen) (thread at : ℕ) → IsNextOf s thread (Some at) → at < length (log_of s)
next_within s thread at next = elim (cases_lt at (length (log_of s))) [
  | inl lt ↦ lt
  | inr le ↦ absurd (past (log_of s) at thread le (next.1).own)
]
