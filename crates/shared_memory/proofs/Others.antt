-- What the entries of others leave of a thread: that it is alive, that it is quiet, which answer is due to it, and that
-- its question is open.
use Rattle.std.proofs.Common.{◌≡◌, ◌≢◌, ℕ, ◌==◌, Bool, true, false, not, ◌||◌, cond, List, [], ◌∷◌, ◌++◌, length, Some}
use Rattle.std.proofs.Common.{None, refl, sym, ◌∙◌, ap, subst, inl, inr, get_or-set_other}
use Rattle.std.specs.Prelude.{nat_lt, is_some}
use Rattle.std.proofs.lemmas.Bool.{both_ways, or_from, or_left, or_right, eqb-false, ne_eqb, cond_both, cond-false, cases_Bool}
use Rattle.std.proofs.lemmas.List.Folds.{list_any-append}
use Rattle.types.specs.declared.event.Entry.{Entry}
use Rattle.types.specs.declared.event.Event.{Event}
use Rattle.types.specs.declared.event.Event.TheVariants.{Ask, Told}
use Rattle.types.specs.declared.event.Question.{Question}
use Rattle.types.specs.declared.event.Question.TheVariants.{Wait, Notify, Spawn, Leave}
use Rattle.types.specs.declared.event.Answer.{Answer}
use Rattle.types.specs.declared.event.Answer.TheVariants.{Number}
use Rattle.types.specs.declared.event.Reply.{Reply}
use Rattle.types.specs.declared.event.Reply.TheVariants.{Value, Done, OutOfBounds, Again, Full}
use Rattle.types.specs.declared.limits.TheConstants.{MOST_THREADS}
use Rattle.shared_memory.specs.declared.sleeper.Sleeper.{Sleeper}
use Rattle.shared_memory.specs.Events.{is_of_queue}
use Rattle.shared_memory.specs.WaitQueue.{WaitQueue, first_queue, is_alive, is_among, is_asleep, answer_due, next_id, tells, wakes, sleeps, starts, leaves}
use Rattle.shared_memory.specs.WaitQueue.{woken_at, ends_at_once, ended, end_answer, is_stuck, settled, asked}
use Rattle.shared_memory.specs.WaitQueue.{after_question, after_answer, IsFree, has_open_question}
use Rattle.shared_memory.specs.History.{entries_of, of_queue, queue_step, queue_from, queue_after}
use Rattle.shared_memory.specs.Legal.{IsAllowed, IsQueueLegalFrom, IsQueueLegal}
use Rattle.shared_memory.specs.Sound.{IsSound}
use Rattle.shared_memory.proofs.Histories.{of_queue-append, queue_from-append, IsQueueLegalFrom-rest, IsQueueLegal-prefix}
use Rattle.shared_memory.proofs.Sleepers.{due_after-other, due_after-woken, others_than-other}
use Rattle.shared_memory.proofs.Soundness.{IsSound-asked, IsSound-step, IsSound-after, awake_if_due, has_place, alive_but}
use Rattle.shared_memory.proofs.Woken.{ended_sleeps, woken_sleeps}

-- A thread without an open question: it doesn't sleep, and is owed no answer.
pub record IsQuiet (q : WaitQueue) (n : ℕ) : Type 0 where
  pub awake : is_asleep q n ≡ false
  pub told : answer_due q n ≡ None

-- What a step of another thread leaves of thread n.
pub record Keeps (n : ℕ) (q r : WaitQueue) : Type 0 where
  pub alive : is_alive q n ≡ true → is_alive r n ≡ true
  pub quiet : IsQuiet q n → IsQuiet r n
  pub due : (a : Answer) → answer_due q n ≡ Some a → answer_due r n ≡ Some a
  pub waits : has_open_question q n ≡ true → has_open_question r n ≡ true

pub Keeps-same : (n : ℕ) (q : WaitQueue) → Keeps n q q
Keeps-same n q = record { alive = λ h. h; quiet = λ h. h; due = λ a h. h; waits = λ h. h }

pub Keeps-trans : (n : ℕ) (p q r : WaitQueue) → Keeps n p q → Keeps n q r → Keeps n p r
Keeps-trans n p q r h k = record {
  alive = λ x. k.alive (h.alive x);
  quiet = λ x. k.quiet (h.quiet x);
  due = λ a x. k.due a (h.due a x);
  waits = λ x. k.waits (h.waits x);
}

-- one with the same sleepers and answers due, as far as they are thread n's
Keeps-alike : (n : ℕ) (q r : WaitQueue) → (is_alive q n ≡ true → is_alive r n ≡ true) → is_asleep r n ≡ is_asleep q n
    → answer_due r n ≡ answer_due q n → Keeps n q r
Keeps-alike n q r alive asleep due = record {
  alive = alive;
  quiet = λ h. record { awake = asleep ∙ h.awake; told = due ∙ h.told };
  due = λ a h. due ∙ h;
  waits = λ h. ap (λ b. b || is_some (answer_due r n)) asleep ∙ (ap (λ o. is_asleep q n || is_some o) due ∙ h);
}

Keeps-tells : (n t : ℕ) (q : WaitQueue) (a : Answer) → t ≢ n → Keeps n q (tells t a q)
Keeps-tells n t q a apart = Keeps-alike n q (tells t a q) (λ h. h) refl (get_or-set_other q.due t n (Some a) None (λ e. apart (sym e)))

Keeps-taken : (n t : ℕ) (q : WaitQueue) → t ≢ n → Keeps n q (after_answer q t)
unfolding after_answer
Keeps-taken n t q apart = Keeps-alike n q (after_answer q t) (λ h. h) refl (get_or-set_other q.due t n None None (λ e. apart (sym e)))

-- who is woken had been asleep
Keeps-woken : (n : ℕ) (q : WaitQueue) (woken : List Sleeper) (a : Answer) → IsSound q → is_asleep q n ≡ true
    → is_among n woken ≡ true → Keeps n q (wakes woken a q)
Keeps-woken n q woken a sound asleep among =
    let now : answer_due (wakes woken a q) n ≡ Some a = due_after-woken n woken a q.due (has_place q sound n asleep) among in
    record {
      alive = λ h. h;
      quiet = λ h. absurd (both_ways (is_asleep q n) h.awake asleep);
      due = λ b h. absurd (both_ways (is_asleep q n) (awake_if_due q sound n b h) asleep);
      waits = λ h. or_right (is_asleep (wakes woken a q) n) (is_some (answer_due (wakes woken a q) n)) (ap is_some now);
    }

Keeps-wakes : (n : ℕ) (q : WaitQueue) (woken : List Sleeper) (a : Answer) → IsSound q
    → (is_among n woken ≡ true → is_asleep q n ≡ true) → Keeps n q (wakes woken a q)
Keeps-wakes n q woken a sound asleep =
    elim (cases_Bool (is_among n woken)) [
      | inl among ↦ Keeps-woken n q woken a sound (asleep among) among
      | inr isnt ↦ Keeps-alike n q (wakes woken a q) (λ h. h) (others_than-other n woken q.sleepers isnt) (due_after-other n woken a q.due isnt)
    ]

Keeps-sleeps : (n : ℕ) (q : WaitQueue) (s : Sleeper) → s.thread ≢ n → Keeps n q (sleeps s q)
Keeps-sleeps n q s apart =
    let other : ((s.thread == n) || false) ≡ false = or_from (s.thread == n) false (ne_eqb s.thread n apart) refl in
    Keeps-alike n q (sleeps s q) (λ h. h)
    (list_any-append (λ (t : Sleeper). t.thread == n) q.sleepers (s ∷ []) ∙ ap (λ b. is_asleep q n || b) other ∙ or_none (is_asleep q n)) refl
  where
    or_none : (b : Bool) → (b || false) ≡ b
    or_none true = refl
    or_none false = refl

Keeps-starts : (n : ℕ) (q : WaitQueue) (arg : ℕ) → Keeps n q (starts arg q)
Keeps-starts n q arg =
    Keeps-alike n q (starts arg q)
    (λ h. list_any-append (λ m. m == n) q.alive (next_id q ∷ []) ∙ or_left (is_alive q n) ((next_id q == n) || false) h) refl refl

Keeps-leaves : (n t : ℕ) (q : WaitQueue) → t ≢ n → Keeps n q (leaves t q)
Keeps-leaves n t q apart = Keeps-alike n q (leaves t q) (λ h. alive_but t n q.alive apart h) refl refl

pub Keeps-settled : (n : ℕ) (q : WaitQueue) → IsSound q → Keeps n q (settled q)
Keeps-settled n q sound =
    cond_both (is_stuck q) (wakes (ended q.sleepers) (end_answer q.sleepers) q) q (λ w. Keeps n q w)
    (λ e. Keeps-wakes n q (ended q.sleepers) (end_answer q.sleepers) sound (λ among. ended_sleeps n q.sleepers among)) (λ e. Keeps-same n q)

Keeps-asked : (n t : ℕ) (q : WaitQueue) (question : Question) (v : ℕ) → t ≢ n → IsSound q → Keeps n q (asked q t question v)
Keeps-asked n t q (Wait addr width expected timeout) v apart sound =
    let s : Sleeper = record { thread = t; addr = addr; timeout = timeout } in
    cond_both (not (v == expected)) (tells t (Number 1) q) (cond (ends_at_once timeout) (tells t (Number 2) q) (sleeps s q)) (λ w. Keeps n q w)
    (λ e. Keeps-tells n t q (Number 1) apart)
    (λ e. cond_both (ends_at_once timeout) (tells t (Number 2) q) (sleeps s q) (λ w. Keeps n q w)
    (λ d. Keeps-tells n t q (Number 2) apart) (λ d. Keeps-sleeps n q s apart))
Keeps-asked n t q (Notify addr count) v apart sound =
    let woken : List Sleeper = woken_at addr count q.sleepers in
    Keeps-trans n q (wakes woken (Number 0) q) (tells t (Number (length woken)) (wakes woken (Number 0) q))
    (Keeps-wakes n q woken (Number 0) sound (λ among. woken_sleeps n addr count q.sleepers among))
    (Keeps-tells n t (wakes woken (Number 0) q) (Number (length woken)) apart)
Keeps-asked n t q (Spawn arg) v apart sound =
    cond_both (nat_lt (next_id q) (length q.due)) (tells t (Number (next_id q)) (starts arg q)) (tells t (Number 4294967295) q) (λ w. Keeps n q w)
    (λ e. Keeps-trans n q (starts arg q) (tells t (Number (next_id q)) (starts arg q)) (Keeps-starts n q arg)
    (Keeps-tells n t (starts arg q) (Number (next_id q)) apart))
    (λ e. Keeps-tells n t q (Number 4294967295) apart)
Keeps-asked n t q Leave v apart sound =
    Keeps-trans n q (leaves t q) (tells t (Number 0) (leaves t q)) (Keeps-leaves n t q apart) (Keeps-tells n t (leaves t q) (Number 0) apart)

Keeps-question : (n t : ℕ) (q : WaitQueue) (question : Question) (v : ℕ) → t ≢ n → IsFree q t → IsSound q → Keeps n q (after_question q t question v)
unfolding after_question
Keeps-question n t q question v apart free sound =
    Keeps-trans n q (asked q t question v) (settled (asked q t question v)) (Keeps-asked n t q question v apart sound)
    (Keeps-settled n (asked q t question v) (IsSound-asked q t question v free sound))

Keeps-ask : (n t : ℕ) (q : WaitQueue) (question : Question) (reply : Reply) → t ≢ n → IsFree q t → IsSound q → Keeps n q (queue_step q t (Ask question) reply)
Keeps-ask n t q question OutOfBounds apart free sound = Keeps-same n q
Keeps-ask n t q question (Value v) apart free sound = Keeps-question n t q question v apart free sound
Keeps-ask n t q question Done apart free sound = Keeps-question n t q question 0 apart free sound
Keeps-ask n t q question Again apart free sound = Keeps-question n t q question 0 apart free sound
Keeps-ask n t q question Full apart free sound = Keeps-question n t q question 0 apart free sound

-- one allowed entry of another thread
pub Keeps-step : (n t : ℕ) (q : WaitQueue) (event : Event) (reply : Reply) → t ≢ n → IsAllowed q t event → IsSound q → Keeps n q (queue_step q t event reply)
Keeps-step n t q (Ask question) reply apart allowed sound = Keeps-ask n t q question reply apart allowed sound
Keeps-step n t q (Told answer) reply apart allowed sound = Keeps-taken n t q apart
Keeps-step n t q _ reply apart allowed sound = Keeps-same n q

-- histories of others

-- one list after another
no_entry : (n : ℕ) (e : Entry) (xs : List Entry) → entries_of n (e ∷ xs) ≡ [] → (e.thread ≢ n) × (entries_of n xs ≡ [])
no_entry n e xs none =
    cond_both (e.thread == n) (e ∷ entries_of n xs) (entries_of n xs) (λ w. w ≡ [] → (e.thread ≢ n) × (entries_of n xs ≡ []))
    (λ is bad. absurd (cc bad)) (λ isnt rest. ((λ same. eqb-false e.thread n isnt same), rest)) none

pub Keeps-from : (n : ℕ) (q : WaitQueue) (xs : List Entry) → entries_of n xs ≡ [] → IsQueueLegalFrom q xs → IsSound q → Keeps n q (queue_from q xs)
Keeps-from n q [] none legal sound = Keeps-same n q
Keeps-from n q (e ∷ xs) none legal sound =
    let parts : (e.thread ≢ n) × (entries_of n xs ≡ []) = no_entry n e xs none in
    Keeps-trans n q (queue_step q e.thread e.event e.reply) (queue_from (queue_step q e.thread e.event e.reply) xs)
    (Keeps-step n e.thread q e.event e.reply parts.0 legal.0 sound)
    (Keeps-from n (queue_step q e.thread e.event e.reply) xs parts.1 legal.1 (IsSound-step q e.thread e.event e.reply legal.0 sound))

-- those of the queue among others' entries are others'
others_of_queue : (n : ℕ) (xs : List Entry) → entries_of n xs ≡ [] → entries_of n (of_queue xs) ≡ []
others_of_queue n [] none = refl
others_of_queue n (e ∷ xs) none =
    let parts : (e.thread ≢ n) × (entries_of n xs ≡ []) = no_entry n e xs none in
    let rest : entries_of n (of_queue xs) ≡ [] = others_of_queue n xs parts.1 in
    cond_both (is_of_queue e.event) (e ∷ of_queue xs) (of_queue xs) (λ w. entries_of n w ≡ [])
    (λ is. cond-false (e.thread == n) (e ∷ entries_of n (of_queue xs)) (entries_of n (of_queue xs)) (ne_eqb e.thread n parts.0) ∙ rest) (λ isnt. rest)

-- entries of others, added to a history
pub Keeps-after : (n : ℕ) (xs ys : List Entry) → entries_of n ys ≡ [] → IsQueueLegal (xs ++ ys) → Keeps n (queue_after xs) (queue_after (xs ++ ys))
unfolding queue_after IsQueueLegal
Keeps-after n xs ys none legal =
    let split : IsQueueLegalFrom (first_queue MOST_THREADS) (of_queue xs ++ of_queue ys) = subst (IsQueueLegalFrom (first_queue MOST_THREADS))
    (of_queue-append xs ys) legal in
    let kept : Keeps n (queue_after xs) (queue_from (queue_after xs) (of_queue ys)) =
    Keeps-from n (queue_after xs) (of_queue ys) (others_of_queue n ys none) (IsQueueLegalFrom-rest (first_queue MOST_THREADS) (of_queue xs) (of_queue ys) split)
    (IsSound-after xs (IsQueueLegal-prefix xs ys legal)) in
    subst (λ w. Keeps n (queue_after xs) w)
    (sym (ap (queue_from (first_queue MOST_THREADS)) (of_queue-append xs ys)
    ∙ queue_from-append (first_queue MOST_THREADS) (of_queue xs) (of_queue ys))) kept
