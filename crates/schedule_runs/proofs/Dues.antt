-- The wait queue without the answers that are due goes on as the whole one does: no question looks at them, so they are
-- laid over those that a question makes due.
use Rattle.std.proofs.Common.{◌≡◌, ℕ, ◌≤◌, ◌==◌, Bool, true, false, not, cond, List, [], ◌∷◌, length, Option, Some}
use Rattle.std.proofs.Common.{None, refl, sym, ◌∙◌, ap, subst, inl, inr, arith, get_or, set, replicate}
use Rattle.std.proofs.Common.{get_or-set_other, get_or-set_same, length-set}
use Rattle.std.specs.Prelude.{nat_lt}
use Rattle.std.proofs.lemmas.Bool.{cases_eq, cases_lt}
use Rattle.std.proofs.lemmas.List.{get_or_past, length-replicate}
use Rattle.types.specs.declared.event.Question.{Question}
use Rattle.types.specs.declared.event.Question.TheVariants.{Wait, Notify, Spawn, Leave}
use Rattle.types.specs.declared.event.Answer.{Answer}
use Rattle.types.specs.declared.event.Answer.TheVariants.{Number}
use Rattle.shared_memory.specs.declared.sleeper.Sleeper.{Sleeper}
use Rattle.shared_memory.specs.WaitQueue.{WaitQueue, answer_due, next_id, tells, starts, woken_at, ends_at_once, ended, end_answer}
use Rattle.shared_memory.specs.WaitQueue.{is_stuck, settled, asked, due_after, after_question, after_answer}
use Rattle.shared_memory.proofs.Soundness.{no_answers}
use Rattle.schedule_threads.specs.Shared.{without_dues}

-- one answer over another
abbrev pub or_due : Option Answer → Option Answer → Option Answer
or_due None below = below
or_due (Some a) below = Some a

-- two lists of answers, of which the first has beneath its own what was due before
pub record IsOver (base : ℕ → Option Answer) (due over : List (Option Answer)) : Type 0 where
  pub long : length due ≡ length over
  pub at : (m : ℕ) → get_or due m None ≡ or_due (get_or over m None) (base m)

-- either where nothing is left of a list
nothing_past : (base : ℕ → Option Answer) (due over : List (Option Answer)) (n : ℕ) (x : Option Answer) → IsOver base due over → length due ≤ n
    → get_or (set due n x) n None ≡ or_due (get_or (set over n x) n None) (base n)
nothing_past base due over n x is past =
    let here : get_or (set due n x) n None ≡ None = get_or_past (set due n x) n None (omega (arith, length-set due n x, past)) in
    let there : get_or (set over n x) n None ≡ None = get_or_past (set over n x) n None (omega (arith, length-set over n x, is.long, past)) in
    let before : get_or due n None ≡ None = get_or_past due n None past in
    let before' : get_or over n None ≡ None = get_or_past over n None (omega (arith, is.long, past)) in
    let base_none : None ≡ base n = sym before ∙ (is.at n ∙ ap (λ o. or_due o (base n)) before') in
    here ∙ (base_none ∙ sym (ap (λ o. or_due o (base n)) there))

set_over : (base : ℕ → Option Answer) (due over : List (Option Answer)) (n : ℕ) (a : Answer) → IsOver base due over
    → IsOver base (set due n (Some a)) (set over n (Some a))
set_over base due over n a is = record {
  long = length-set due n (Some a) ∙ (is.long ∙ sym (length-set over n (Some a)));
  at = λ m. elim (cases_eq m n) [
    | inl e ↦ subst (λ (k : ℕ). get_or (set due n (Some a)) k None ≡ or_due (get_or (set over n (Some a)) k None) (base k)) (sym e) here
    | inr apart ↦ get_or-set_other due n m (Some a) None apart ∙ (is.at m ∙ sym (ap (λ o. or_due o (base m)) (get_or-set_other over n m (Some a) None apart)))
  ];
}
  where
    here : get_or (set due n (Some a)) n None ≡ or_due (get_or (set over n (Some a)) n None) (base n)
    here = elim (cases_lt n (length due)) [
      | inl within ↦ get_or-set_same due n (Some a) None within
          ∙ sym (ap (λ o. or_due o (base n)) (get_or-set_same over n (Some a) None (omega (arith, is.long, within))))
      | inr past ↦ nothing_past base due over n (Some a) is past
    ]

woken_over : (base : ℕ → Option Answer) (woken : List Sleeper) (a : Answer) (due over : List (Option Answer))
    → IsOver base due over → IsOver base (due_after woken a due) (due_after woken a over)
woken_over base [] a due over is = is
woken_over base (s ∷ woken) a due over is = woken_over base woken a (set due s.thread (Some a))
    (set over s.thread (Some a)) (set_over base due over s.thread a is)

abbrev with_due : WaitQueue → List (Option Answer) → WaitQueue
with_due q due = record q { due = due }

-- two queues that differ in the answers due alone, which are laid over so
pub record AreAlike (base : ℕ → Option Answer) (q r : WaitQueue) : Type 0 where
  pub same : with_due q [] ≡ with_due r []
  pub over : IsOver base q.due r.due

-- without answers they are the same
alike_without : (base : ℕ → Option Answer) (q r : WaitQueue) → AreAlike base q r → without_dues q ≡ without_dues r
alike_without base q r alike =
    ap (λ (w : WaitQueue). with_due w (replicate (length q.due) None)) alike.same ∙ ap (λ (k : ℕ). with_due r (replicate k None)) (alike.over).long

pub without_twice : (q : WaitQueue) → without_dues (without_dues q) ≡ without_dues q
without_twice q = ap (λ (k : ℕ). with_due q (replicate k None)) (length-replicate {A = Option Answer} (length q.due) None)

pub without_answer : (q : WaitQueue) (n : ℕ) → without_dues (after_answer q n) ≡ without_dues q
unfolding after_answer
without_answer q n = ap (λ (k : ℕ). with_due q (replicate k None)) (length-set q.due n None)

both_ways_alike : (base : ℕ → Option Answer) (b : Bool) (q q' r r' : WaitQueue) → AreAlike base q r
    → AreAlike base q' r' → AreAlike base (cond b q q') (cond b r r')
both_ways_alike base true q q' r r' h k = h
both_ways_alike base false q q' r r' h k = k

-- a question, before the queue settles
asked_alike : (base : ℕ → Option Answer) (q : WaitQueue) (due over : List (Option Answer)) (n : ℕ) (question : Question) (v : ℕ) → IsOver base due over
    → AreAlike base (asked (with_due q due) n question v) (asked (with_due q over) n question v)
asked_alike base q due over n (Wait addr width expected timeout) v is =
    both_ways_alike base (not (v == expected)) _ _ _ _ (record { same = refl; over = set_over base due over n (Number 1) is })
    (both_ways_alike base (ends_at_once timeout) _ _ _ _
    (record { same = refl; over = set_over base due over n (Number 2) is }) (record { same = refl; over = is }))
asked_alike base q due over n (Notify addr count) v is =
    let woken : List Sleeper = woken_at addr count q.sleepers in record {
      same = refl;
      over = set_over base (due_after woken (Number 0) due)
          (due_after woken (Number 0) over) n (Number (length woken)) (woken_over base woken (Number 0) due over is);
    }
asked_alike base q due over n (Spawn arg) v is =
    subst (λ (k : ℕ). AreAlike base (asked (with_due q due) n (Spawn arg) v) (cond (nat_lt (next_id q) k)
    (tells n (Number (next_id q)) (starts arg (with_due q over))) (tells n (Number 4294967295) (with_due q over)))) is.long
    (both_ways_alike base (nat_lt (next_id q) (length due)) _ _ _ _ (record { same = refl; over = set_over base due over n (Number (next_id q)) is })
    (record { same = refl; over = set_over base due over n (Number 4294967295) is }))
asked_alike base q due over n Leave v is = record { same = refl; over = set_over base due over n (Number 0) is }

-- settling
settled_alike : (base : ℕ → Option Answer) (q : WaitQueue) (due over : List (Option Answer)) → IsOver base due over
    → AreAlike base (settled (with_due q due)) (settled (with_due q over))
settled_alike base q due over is =
    both_ways_alike base (is_stuck q) _ _ _ _
    (record { same = refl; over = woken_over base (ended q.sleepers) (end_answer q.sleepers) due over is })
    (record { same = refl; over = is })

settled_both : (base : ℕ → Option Answer) (q r : WaitQueue) → AreAlike base q r → AreAlike base (settled q) (settled r)
settled_both base q r alike =
    subst (λ (w : WaitQueue). AreAlike base (settled q) (settled (with_due w r.due))) alike.same (settled_alike base (with_due q []) q.due r.due alike.over)

-- what is due where nothing was
pub none_due : (q : WaitQueue) (m : ℕ) → answer_due (without_dues q) m ≡ None
none_due q m = no_answers (length q.due) m

pub question_alike : (q : WaitQueue) (n : ℕ) (question : Question) (v : ℕ)
    → AreAlike (answer_due q) (after_question q n question v) (after_question (without_dues q) n question v)
unfolding after_question
question_alike q n question v =
    let is : IsOver (answer_due q) q.due (replicate (length q.due) None) = record {
      long = sym (length-replicate {A = Option Answer} (length q.due) None);
      at = λ m. sym (ap (λ o. or_due o (answer_due q m)) (none_due q m));
    } in
    settled_both (answer_due q) (asked q n question v) (asked (without_dues q) n question v)
    (asked_alike (answer_due q) q q.due (replicate (length q.due) None) n question v is)

-- so it is the same queue but for these
pub question_same : (q : WaitQueue) (n : ℕ) (question : Question) (v : ℕ)
    → without_dues (after_question q n question v) ≡ without_dues (after_question (without_dues q) n question v)
question_same q n question v =
    alike_without (answer_due q) (after_question q n question v) (after_question (without_dues q) n question v) (question_alike q n question v)

-- and what is due after it is what it makes due, over what was due
pub question_due : (q : WaitQueue) (n : ℕ) (question : Question) (v m : ℕ)
    → answer_due (after_question q n question v) m ≡ or_due (answer_due (after_question (without_dues q) n question v) m) (answer_due q m)
question_due q n question v m = IsOver.at (AreAlike.over (question_alike q n question v)) m
