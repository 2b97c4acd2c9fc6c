-- What every queue keeps to that questions and answers lead to, as the room of the log needs it.
use Rattle.std.proofs.Common.{cond, ◌≡◌, ℕ, suc, ◌≤◌, Bool, true, false, true≢false, not, ◌||◌, List, [], ◌∷◌}
use Rattle.std.proofs.Common.{length, set, get_or, refl, sym, ap, ◌∙◌, subst, arith, eqb, eqb-true, ltb, ltb-true, ltb-false, eq-eqb}
use Rattle.std.specs.Prelude.{Option, Some, None}
use Rattle.std.specs.List.{filter}
use Rattle.std.proofs.Math.Bool.{or-true}
use Rattle.std.proofs.lemmas.List.{length-set, get_or-set_same, get_or-set_other, get_or_past}
use Rattle.types.specs.declared.event.Answer.{Answer}
use Rattle.shared_memory.specs.declared.sleeper.Sleeper.{Sleeper}
use Rattle.shared_memory.specs.WaitQueue.{WaitQueue, is_among, answer_due, due_after, after_answer}

-- who is among those that a filter leaves
pub among_rest : (m : ℕ) (woken xs : List Sleeper)
    → is_among m (filter (λ (s : Sleeper). not (is_among s.thread woken)) xs) ≡ true → (is_among m xs ≡ true)
    × (is_among m woken ≡ false)
among_rest m woken [] h = absurd (true≢false (sym h))
among_rest m woken (x ∷ xs) h = by_test (among_rest m woken xs) (is_among x.thread woken) refl h
  where
    by_name : (is_among m (filter (λ (s : Sleeper). not (is_among s.thread woken)) xs) ≡ true → (is_among m xs ≡ true)
        × (is_among m woken ≡ false)) → (b : Bool) → eqb x.thread m ≡ b
        → is_among x.thread woken ≡ false → (b || is_among m (filter (λ (s : Sleeper). not (is_among s.thread woken)) xs)) ≡ true
        → ((b || is_among m xs) ≡ true) × (is_among m woken ≡ false)
    by_name r true e out k = (refl, subst (λ (n : ℕ). is_among n woken ≡ false) (eqb-true x.thread m e) out)
    by_name r false e out k = r k

    by_test : (is_among m (filter (λ (s : Sleeper). not (is_among s.thread woken)) xs) ≡ true → (is_among m xs ≡ true)
        × (is_among m woken ≡ false)) → (b : Bool) → is_among x.thread woken ≡ b
        → is_among m (cond (not b) (x ∷ filter (λ (s : Sleeper). not (is_among s.thread woken)) xs)
        (filter (λ (s : Sleeper). not (is_among s.thread woken)) xs)) ≡ true
        → (is_among m (x ∷ xs) ≡ true) × (is_among m woken ≡ false)
    by_test r true t k = (ap (λ b. eqb x.thread m || b) (r k).0 ∙ or-true (eqb x.thread m), (r k).1)
    by_test r false t k = by_name r (eqb x.thread m) refl t k

-- an answer to others changes nothing of what is due to one
pub due_other : (m : ℕ) (woken : List Sleeper) (answer : Answer) (due : List (Option Answer))
    → is_among m woken ≡ false → get_or (due_after woken answer due) m None ≡ get_or due m None
due_other m [] answer due h = refl
due_other m (s ∷ woken) answer due h = by_name (due_other m woken answer (set due s.thread (Some answer))) (eqb s.thread m) refl h
  where
    by_name : (is_among m woken ≡ false → get_or (due_after woken answer (set due s.thread (Some answer))) m None ≡
        get_or (set due s.thread (Some answer)) m None) → (b : Bool) → eqb s.thread m ≡ b
        → (b || is_among m woken) ≡ false → get_or (due_after woken answer (set due s.thread (Some answer))) m None ≡ get_or due m None
    by_name r true e k = absurd (true≢false k)
    by_name r false e k = r k ∙ get_or-set_other due s.thread m (Some answer) None
        (λ (same : m ≡ s.thread). true≢false (sym (eq-eqb s.thread m (sym same)) ∙ e))

length-due_after : (woken : List Sleeper) (answer : Answer) (due : List (Option Answer)) → length (due_after woken answer due) ≡ length due
length-due_after [] answer due = refl
length-due_after (s ∷ woken) answer due = length-due_after woken answer (set due s.thread (Some answer)) ∙ length-set due s.thread (Some answer)

pub length-rest : (p : ℕ → Bool) (xs : List ℕ) → length (filter p xs) ≤ length xs
length-rest p [] = omega arith
length-rest p (x ∷ xs) = by_test (length-rest p xs) (p x)
  where
    by_test : length (filter p xs) ≤ length xs → (b : Bool) → length (cond b (x ∷ filter p xs) (filter p xs)) ≤ suc (length xs)
    by_test r true = omega arith
    by_test r false = omega arith

-- an answer taken is due no more
pub due_taken : (q : WaitQueue) (n : ℕ) → answer_due (after_answer q n) n ≡ None
unfolding after_answer
due_taken q n = by_test (ltb n (length q.due)) refl
  where
    by_test : (b : Bool) → ltb n (length q.due) ≡ b → get_or (set q.due n None) n None ≡ None
    by_test true t = get_or-set_same q.due n None None (ltb-true n (length q.due) t)
    by_test false t = get_or_past (set q.due n None) n None (let k = ltb-false n (length q.due) t in let l = length-set q.due n None in omega arith)
