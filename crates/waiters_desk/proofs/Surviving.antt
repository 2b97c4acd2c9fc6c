-- A free thread stays free whatever others enter, be it legal or not; so what a desk asks of its caller survives accesses.
use Rattle.std.proofs.Common.{◌≡◌, ◌≢◌, ℕ, ◌==◌, Bool, true, false, not, ◌||◌, cond, List, [], ◌∷◌, ◌++◌, Option, Some}
use Rattle.std.proofs.Common.{None, refl, sym, ◌∙◌, ap, subst, append-nil, get_or-set_other}
use Rattle.std.specs.Prelude.{nat_lt, length}
use Rattle.std.proofs.lemmas.Bool.{both_ways, or_left, or_from, cond_both, ne_eqb, false_from_ne_true}
use Rattle.std.proofs.lemmas.List.Folds.{list_any-append}
use Rattle.types.specs.declared.event.Entry.{Entry}
use Rattle.types.specs.declared.event.Event.{Event}
use Rattle.types.specs.declared.event.Event.TheVariants.{Ask, Told}
use Rattle.types.specs.declared.event.Question.{Question}
use Rattle.types.specs.declared.event.Question.TheVariants.{Wait, Notify, Spawn, Leave}
use Rattle.types.specs.declared.event.Answer.{Answer}
use Rattle.types.specs.declared.event.Answer.TheVariants.{Number}
use Rattle.types.specs.declared.event.Reply.{Reply}
use Rattle.types.specs.declared.event.Reply.TheVariants.{Value, Done, OutOfBounds, Again, Full}
use Rattle.types.specs.declared.limits.TheConstants.{MOST_THREADS}
use Rattle.shared_memory.specs.declared.sleeper.Sleeper.{Sleeper}
use Rattle.shared_memory.specs.Events.{is_of_queue}
use Rattle.shared_memory.specs.Memory.{Memory}
use Rattle.shared_memory.specs.WaitQueue.{WaitQueue, first_queue, is_alive, is_among, is_asleep, next_id, tells, wakes, sleeps, starts, leaves}
use Rattle.shared_memory.specs.WaitQueue.{woken_at, ends_at_once, ended, end_answer, is_stuck, settled, asked, after_question, after_answer, IsFree}
use Rattle.shared_memory.specs.History.{entry, entries_of, of_queue, queue_step, queue_from, queue_after}
use Rattle.shared_memory.specs.Access.{Answers, Accesses}
use Rattle.shared_memory.proofs.Histories.{of_queue-append, of_queue-none, queue_from-append, same_queue}
use Rattle.shared_memory.proofs.Sleepers.{due_after-other, others_than-other}
use Rattle.shared_memory.proofs.Soundness.{alive_but}
use Rattle.shared_memory.proofs.Woken.{ended_sleeps, woken_sleeps}
use Rattle.waiters_desk.proofs.Beginning.{not_own, none_of_queue}

-- what a step of another thread leaves of a free one

module _ (n : ℕ) (q : WaitQueue) (free : IsFree q n) where
  free_tells : (t : ℕ) (a : Answer) → t ≢ n → IsFree (tells t a q) n
  free_tells t a apart = record { alive = free.alive; awake = free.awake; told = get_or-set_other q.due t n (Some a) None (λ e. apart (sym e)) ∙ free.told }

  free_taken : (t : ℕ) → t ≢ n → IsFree (after_answer q t) n
  unfolding after_answer
  free_taken t apart = record { alive = free.alive; awake = free.awake; told = get_or-set_other q.due t n None None (λ e. apart (sym e)) ∙ free.told }

  -- whom one wakes slept
  free_wakes : (woken : List Sleeper) (a : Answer) → (is_among n woken ≡ true → is_asleep q n ≡ true) → IsFree (wakes woken a q) n
  free_wakes woken a slept =
      let isnt : is_among n woken ≡ false = false_from_ne_true (is_among n woken) (λ among. both_ways (is_asleep q n) free.awake (slept among)) in
      record { alive = free.alive; awake = others_than-other n woken q.sleepers isnt ∙ free.awake; told = due_after-other n woken a q.due isnt ∙ free.told }

  free_sleeps : (s : Sleeper) → s.thread ≢ n → IsFree (sleeps s q) n
  free_sleeps s apart =
      let other : ((s.thread == n) || false) ≡ false = or_from (s.thread == n) false (ne_eqb s.thread n apart) refl in
      record {
        alive = free.alive;
        awake = list_any-append (λ (t : Sleeper). t.thread == n) q.sleepers (s ∷ []) ∙ or_from (is_asleep q n) ((s.thread == n) || false) free.awake other;
        told = free.told;
      }

  free_starts : (arg : ℕ) → IsFree (starts arg q) n
  free_starts arg = record {
    alive = list_any-append (λ m. m == n) q.alive (next_id q ∷ []) ∙ or_left (is_alive q n) ((next_id q == n) || false) free.alive;
    awake = free.awake;
    told = free.told;
  }

  free_leaves : (t : ℕ) → t ≢ n → IsFree (leaves t q) n
  free_leaves t apart = record { alive = alive_but t n q.alive apart free.alive; awake = free.awake; told = free.told }

  free_settled : IsFree (settled q) n
  free_settled =
      cond_both (is_stuck q) (wakes (ended q.sleepers) (end_answer q.sleepers) q) q (λ w. IsFree w n)
      (λ e. free_wakes (ended q.sleepers) (end_answer q.sleepers) (λ among. ended_sleeps n q.sleepers among)) (λ e. free)

module _ (n t : ℕ) (apart : t ≢ n) where
  free_asked : (q : WaitQueue) (question : Question) (v : ℕ) → IsFree q n → IsFree (asked q t question v) n
  free_asked q (Wait addr width expected timeout) v free =
      let s : Sleeper = record { thread = t; addr = addr; timeout = timeout } in
      cond_both (not (v == expected)) (tells t (Number 1) q) (cond (ends_at_once timeout) (tells t (Number 2) q) (sleeps s q)) (λ w. IsFree w n)
      (λ e. free_tells n q free t (Number 1) apart)
      (λ e. cond_both (ends_at_once timeout) (tells t (Number 2) q) (sleeps s q) (λ w. IsFree w n)
      (λ d. free_tells n q free t (Number 2) apart) (λ d. free_sleeps n q free s apart))
  free_asked q (Notify addr count) v free =
      let woken : List Sleeper = woken_at addr count q.sleepers in
      free_tells n (wakes woken (Number 0) q)
      (free_wakes n q free woken (Number 0)
      (λ among. woken_sleeps n addr count q.sleepers among)) t (Number (length woken)) apart
  free_asked q (Spawn arg) v free =
      cond_both (nat_lt (next_id q) (length q.due)) (tells t (Number (next_id q)) (starts arg q)) (tells t (Number 4294967295) q) (λ w. IsFree w n)
      (λ e. free_tells n (starts arg q) (free_starts n q free arg) t (Number (next_id q)) apart) (λ e. free_tells n q free t (Number 4294967295) apart)
  free_asked q Leave v free = free_tells n (leaves t q) (free_leaves n q free t apart) t (Number 0) apart

  free_question : (q : WaitQueue) (question : Question) (v : ℕ) → IsFree q n → IsFree (after_question q t question v) n
  unfolding after_question
  free_question q question v free = free_settled n (asked q t question v) (free_asked q question v free)

  free_ask : (q : WaitQueue) (question : Question) (reply : Reply) → IsFree q n → IsFree (queue_step q t (Ask question) reply) n
  free_ask q question OutOfBounds free = free
  free_ask q question (Value v) free = free_question q question v free
  free_ask q question Done free = free_question q question 0 free
  free_ask q question Again free = free_question q question 0 free
  free_ask q question Full free = free_question q question 0 free

  free_step : (q : WaitQueue) (event : Event) (reply : Reply) → IsFree q n → IsFree (queue_step q t event reply) n
  free_step q (Ask question) reply free = free_ask q question reply free
  free_step q (Told answer) reply free = free_taken n q free t apart
  free_step q _ reply free = free

free_from : (n : ℕ) (q : WaitQueue) (xs : List Entry) → entries_of n xs ≡ [] → IsFree q n → IsFree (queue_from q xs) n
free_from n q [] none free = free
free_from n q (e ∷ xs) none free =
    let parts : (e.thread ≢ n) × (entries_of n xs ≡ []) = not_own n e xs none in
    free_from n (queue_step q e.thread e.event e.reply) xs parts.1 (free_step n e.thread parts.0 q e.event e.reply free)

-- entries of others, added
pub free_beside_others : (n : ℕ) (xs ys : List Entry) → entries_of n ys ≡ [] → IsFree (queue_after xs) n → IsFree (queue_after (xs ++ ys)) n
unfolding queue_after
free_beside_others n xs ys none free =
    subst (λ (w : WaitQueue). IsFree w n) (sym (ap (queue_from (first_queue MOST_THREADS)) (of_queue-append xs ys)
    ∙ queue_from-append (first_queue MOST_THREADS) (of_queue xs) (of_queue ys)))
    (free_from n (queue_from (first_queue MOST_THREADS) (of_queue xs)) (of_queue ys) (none_of_queue n ys none) free)

-- an access that isn't of the queue
module _ (loses : Bool) (opening : Memory) (limit : Option ℕ) (n : ℕ) (right : Bool) (event : Event)
    (before after : List Entry) (isnt : is_of_queue event ≡ false)
    (free : IsFree (queue_after before) n) where
  free_answered : (reply : Reply) → Answers opening limit n right event reply before after → IsFree (queue_after after) n
  free_answered reply a =
      let so_far : IsFree (queue_after a.so_far) n =
      subst (λ (l : List Entry). IsFree (queue_after l) n) (sym a.gains.list) (free_beside_others n before a.others a.gains.apart free) in
      let same : queue_after after ≡ queue_after a.so_far = same_queue after a.so_far (ap of_queue a.list ∙ unchanged a.so_far reply) in
      subst (λ (w : WaitQueue). IsFree w n) (sym same) so_far
    where
      unchanged : (xs : List Entry) (r : Reply) → of_queue (xs ++ entry n event r ∷ []) ≡ of_queue xs
      unchanged xs r =
          of_queue-append xs (entry n event r ∷ []) ∙ (ap (λ w. of_queue xs ++ w) (of_queue-none (entry n event r) isnt) ∙ append-nil (of_queue xs))

  pub free_accessed : (reply : Reply) → Accesses loses opening limit n right event before after reply → IsFree (queue_after after) n
  free_accessed (Value v) a = free_answered (Value v) a
  free_accessed Done a = free_answered Done a
  free_accessed OutOfBounds a = free_answered OutOfBounds a
  free_accessed Again a = subst (λ (l : List Entry). IsFree (queue_after l) n) (sym a.gains.list) (free_beside_others n before a.others a.gains.apart free)
  free_accessed Full a = subst (λ (l : List Entry). IsFree (queue_after l) n) (sym a.gains.list) (free_beside_others n before a.others a.gains.apart free)
