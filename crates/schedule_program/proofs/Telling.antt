-- Answers are told to one thread after the other.
use Rattle.std.proofs.Common.{◌≡◌, ◌≢◌, ℕ, zero, suc, ◌+◌, ◌<◌, ◌≤◌, inl, inr, cond, List, [], ◌∷◌, length, Option}
use Rattle.std.proofs.Common.{Some, None, refl, sym, ◌∙◌, ap, subst, arith, get_or, set, replicate}
use Rattle.std.proofs.Common.{get_or-set_other, get_or-set_same, length-set}
use Rattle.std.specs.Prelude.{nat_lt, MatchOption}
use Rattle.std.proofs.lemmas.Bool.{cases_eq, cases_lt, cond-true, cond-false, lt-ltb, le-ltb}
use Rattle.std.proofs.lemmas.List.{get_or_past}
use Rattle.types.specs.declared.event.Answer.{Answer}
use Rattle.types.specs.declared.limits.TheConstants.{MOST_THREADS}
use Rattle.shared_memory.specs.WaitQueue.{WaitQueue, answer_due, after_answer}
use Rattle.schedule.specs.System.{put}
use Rattle.schedule.proofs.Basics.{put-same, put-other}
use Rattle.schedule.specs.Scheduled.{hears_any}
use Rattle.schedule_threads.specs.Shared.{without_dues}
use Rattle.schedule_runs.proofs.Dues.{without_answer}
use Rattle.interp_trait.specs.Turns.{Running, wants_of}
use Rattle.schedule_machine.specs.Threads.{Setting}
use Rattle.schedule_machine.specs.Runs.{MayHear, all_hear, system_by}

-- the threads below a number have taken the answers that were due to them
pub record IsToldUntil (k : ℕ) (q now : WaitQueue) : Type 0 where
  pub same : without_dues now ≡ without_dues q
  pub long : length now.due ≡ length q.due
  pub done : (m : ℕ) → m < k → answer_due now m ≡ None
  pub rest : (m : ℕ) → k ≤ m → answer_due now m ≡ answer_due q m

told_taken : (k : ℕ) (q now : WaitQueue) → IsToldUntil k q now → IsToldUntil (k + 1) q (after_answer now k)
unfolding after_answer
told_taken k q now is = record {
  same = without_answer now k ∙ is.same;
  long = length-set now.due k None ∙ is.long;
  done = λ m h. elim (cases_eq m k) [
    | inl e ↦ subst (λ (j : ℕ). get_or (set now.due k None) j None ≡ None) (sym e) (set_none now.due)
    | inr apart ↦ get_or-set_other now.due k m None None apart ∙ is.done m (omega arith)
  ];
  rest = λ m h. let apart : m ≢ k = λ e. absurd (omega arith) in get_or-set_other now.due k m None None apart ∙ is.rest m (omega arith);
}
  where
    set_none : (due : List (Option Answer)) → get_or (set due k None) k None ≡ None
    set_none due = elim (cases_lt k (length due)) [
      | inl within ↦ get_or-set_same due k None None within
      | inr past ↦ get_or_past (set due k None) k None (omega (arith, length-set due k None, past))
    ]

told_same : (k : ℕ) (q now : WaitQueue) → IsToldUntil k q now → answer_due now k ≡ None → IsToldUntil (k + 1) q now
told_same k q now is none = record {
  same = is.same;
  long = is.long;
  done = λ m h. elim (cases_eq m k) [ inl e ↦ subst (λ (j : ℕ). answer_due now j ≡ None) (sym e) none | inr apart ↦ is.done m (omega arith) ];
  rest = λ m h. is.rest m (omega arith);
}

pub told_next : (k : ℕ) (q now next : WaitQueue) (o : Option Answer) → IsToldUntil k q now → o ≡ answer_due now k
    → MatchOption o (next ≡ now) (λ _. next ≡ after_answer now k)
    → IsToldUntil (k + 1) q next
told_next k q now next None is due after = subst (λ z. IsToldUntil (k + 1) q z) (sym after) (told_same k q now is (sym due))
told_next k q now next (Some a) is due after = subst (λ z. IsToldUntil (k + 1) q z) (sym after) (told_taken k q now is)

-- then none is due any more

all_none : (due : List (Option Answer)) (n : ℕ) → length due ≡ n → ((m : ℕ) → m < n → get_or due m None ≡ None) → due ≡ replicate n None
all_none [] zero long h = refl
all_none [] (suc n) long h = absurd (omega (arith, long))
all_none (o ∷ due) zero long h = absurd (omega (arith, long))
all_none (o ∷ due) (suc n) long h =
    let first : o ≡ None = h 0 (omega arith) in
    let rest : due ≡ replicate n None = all_none due n (omega (arith, long)) (λ m below. h (suc m) (omega (arith, below))) in
    ap (λ x. x ∷ due) first ∙ ap (λ xs. None ∷ xs) rest

pub told_every : (q now : WaitQueue) → length q.due ≡ MOST_THREADS → IsToldUntil MOST_THREADS q now → now ≡ without_dues q
told_every q now long is =
    ap (λ due. record now { due = due }) (all_none now.due (length now.due) refl (λ m h. is.done m (omega (arith, h, is.long, long)))) ∙ is.same

-- the threads meanwhile
abbrev pub told_until : Setting → (ℕ → Running) → WaitQueue → ℕ → ℕ → Running
told_until s f q k m = cond (nat_lt m k) (all_hear s f q m) (f m)

pub told_below : (s : Setting) (f : ℕ → Running) (q : WaitQueue) (k m : ℕ) → m < k → told_until s f q k m ≡ all_hear s f q m
told_below s f q k m h = cond-true (nat_lt m k) (all_hear s f q m) (f m) (lt-ltb m k h)

pub told_above : (s : Setting) (f : ℕ → Running) (q : WaitQueue) (k m : ℕ) → k ≤ m → told_until s f q k m ≡ f m
told_above s f q k m h = cond-false (nat_lt m k) (all_hear s f q m) (f m) (le-ltb m k h)

pub told_apart : (s : Setting) (f : ℕ → Running) (q : WaitQueue) (k m : ℕ) → m ≢ k → told_until s f q k m ≡ told_until s f q (k + 1) m
told_apart s f q k m apart = elim (cases_lt m k) [
  | inl below ↦ told_below s f q k m below ∙ sym (told_below s f q (k + 1) m (omega arith))
  | inr above ↦ told_above s f q k m above ∙ sym (told_above s f q (k + 1) m (omega arith))
]

pub may_still : (s : Setting) (f : ℕ → Running) (q now : WaitQueue) (k : ℕ) → IsToldUntil k q now → MayHear s f q → MayHear s (told_until s f q k) now
may_still s f q now k is may m a due = elim (cases_lt m k) [
  | inl below ↦ (let none : answer_due now m ≡ None = is.done m below in absurd (cc (none, due)))
  | inr above ↦ ap (wants_of s.program) (told_above s f q k m above) ∙ may m a (sym (is.rest m above) ∙ due)
]

pub told_put : (s : Setting) (f : ℕ → Running) (q now : WaitQueue) (k : ℕ) → IsToldUntil k q now
    → (m : ℕ) → told_until s f q (k + 1) m ≡ put (told_until s f q k) k (all_hear s (told_until s f q k) now k) m
told_put s f q now k is m = elim (cases_eq m k) [
  | inl e ↦ subst (λ (j : ℕ). told_until s f q (k + 1) j ≡ put (told_until s f q k) k (all_hear s (told_until s f q k) now k) j) (sym e)
      (told_below s f q (k + 1) k (omega arith)
      ∙ (ap (λ o. hears_any (system_by s) (f k) o) (sym (is.rest k (omega arith)))
      ∙ (ap (λ t. hears_any (system_by s) t (answer_due now k)) (sym (told_above s f q k k (omega arith)))
      ∙ sym (put-same (told_until s f q k) k (all_hear s (told_until s f q k) now k)))))
  | inr apart ↦ sym (told_apart s f q k m apart) ∙ sym (put-other (told_until s f q k) k (all_hear s (told_until s f q k) now k) m apart)
]

-- at the end
pub told_all : (s : Setting) (f : ℕ → Running) (q : WaitQueue) → length q.due ≡ MOST_THREADS → (m : ℕ) → all_hear s f q m ≡ told_until s f q MOST_THREADS m
told_all s f q long m = elim (cases_lt m MOST_THREADS) [
  | inl below ↦ sym (told_below s f q MOST_THREADS m below)
  | inr past ↦ ap (λ o. hears_any (system_by s) (f m) o) (get_or_past q.due m None (omega (arith, long, past))) ∙ sym (told_above s f q MOST_THREADS m past)
]
