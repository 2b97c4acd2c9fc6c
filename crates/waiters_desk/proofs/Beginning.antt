-- A thread that was spawned and has entered nothing is alive, so it is free.
use Rattle.std.proofs.Common.{◌≡◌, ◌≢◌, ℕ, ◌+◌, ◌<◌, ◌==◌, true, false, not, ◌||◌, cond, List, [], ◌∷◌, length}
use Rattle.std.proofs.Common.{zero, suc, Option, Some, None, refl, sym, ◌∙◌, ap, subst, ◌⊎◌, inl, inr, arith, length-append}
use Rattle.std.specs.Prelude.{nat_lt}
use Rattle.std.proofs.lemmas.Bool.{both_ways, or_left, or_right, cond_both, cond-false, eq-eqb, eqb-false, ne_eqb, cases_lt}
use Rattle.std.proofs.lemmas.List.Folds.{list_any-append}
use Rattle.std.proofs.lemmas.Option.{slice_get_within}
use Rattle.types.specs.declared.event.Entry.{Entry}
use Rattle.types.specs.declared.event.Event.{Event}
use Rattle.types.specs.declared.event.Event.TheVariants.{Ask, Told}
use Rattle.types.specs.declared.event.Question.{Question}
use Rattle.types.specs.declared.event.Question.TheVariants.{Wait, Notify, Spawn, Leave}
use Rattle.types.specs.declared.event.Answer.{Answer}
use Rattle.types.specs.declared.event.Answer.TheVariants.{Number}
use Rattle.types.specs.declared.event.Reply.{Reply}
use Rattle.types.specs.declared.event.Reply.TheVariants.{Value, Done, OutOfBounds, Again, Full}
use Rattle.types.specs.declared.limits.TheConstants.{MOST_THREADS}
use Rattle.shared_memory.specs.declared.sleeper.Sleeper.{Sleeper}
use Rattle.shared_memory.specs.Events.{is_of_queue}
use Rattle.shared_memory.specs.Memory.{Memory}
use Rattle.shared_memory.specs.WaitQueue.{WaitQueue, first_queue, is_alive, next_id, tells, wakes, sleeps, starts, ends_at_once}
use Rattle.shared_memory.specs.WaitQueue.{ended, end_answer, is_stuck, settled, asked, after_question, after_answer, IsFree}
use Rattle.shared_memory.specs.History.{entries_of, of_queue, queue_step, queue_from, queue_after}
use Rattle.shared_memory.specs.Legal.{IsAllowed, IsQueueLegalFrom, IsQueueLegal}
use Rattle.shared_memory.specs.Sound.{IsSound}
use Rattle.shared_memory.proofs.Soundness.{IsSound-first, IsSound-step}
use Rattle.shared_memory.proofs.Others.{Keeps, Keeps-step}
use Rattle.shared_memory.proofs.Standing.{newcomer}
use Rattle.waiters.specs.Queue.{arg_of}
use Rattle.waiters_desk.specs.Calls.{EntersAtDesk, IsBeside, MayBegin, BeginsOrNever}

-- no thread was started, or the one with the next number
abbrev StartsOne : WaitQueue → WaitQueue → Type 0
StartsOne q r = (r.args ≡ q.args) ⊎ ((length r.args ≡ length q.args + 1) × (is_alive r (next_id q) ≡ true))

starts_settled : (q r : WaitQueue) → StartsOne q r → StartsOne q (settled r)
starts_settled q r h = cond_both (is_stuck r) (wakes (ended r.sleepers) (end_answer r.sleepers) r) r (λ w. StartsOne q w) (λ e. h) (λ e. h)

starts_spawn : (q : WaitQueue) (t arg : ℕ) (a : Answer) → StartsOne q (tells t a (starts arg q))
starts_spawn q t arg a =
    inr (
      length-append q.args (arg ∷ []),
      list_any-append (λ m. m == next_id q) q.alive (next_id q ∷ [])
          ∙ or_right (is_alive q (next_id q)) ((next_id q == next_id q) || false)
          (or_left (next_id q == next_id q) false (eq-eqb (next_id q) (next_id q) refl)),
    )

starts_asked : (q : WaitQueue) (t : ℕ) (question : Question) (v : ℕ) → StartsOne q (asked q t question v)
starts_asked q t (Wait addr width expected timeout) v =
    let s : Sleeper = record { thread = t; addr = addr; timeout = timeout } in
    cond_both (not (v == expected)) (tells t (Number 1) q)
    (cond (ends_at_once timeout) (tells t (Number 2) q) (sleeps s q)) (λ w. StartsOne q w) (λ e. inl refl)
    (λ e. cond_both (ends_at_once timeout) (tells t (Number 2) q) (sleeps s q) (λ w. StartsOne q w) (λ d. inl refl) (λ d. inl refl))
starts_asked q t (Notify addr count) v = inl refl
starts_asked q t (Spawn arg) v =
    cond_both (nat_lt (next_id q) (length q.due)) (tells t (Number (next_id q)) (starts arg q)) (tells t (Number 4294967295) q) (λ w. StartsOne q w)
    (λ e. starts_spawn q t arg (Number (next_id q))) (λ e. inl refl)
starts_asked q t Leave v = inl refl

starts_question : (q : WaitQueue) (t : ℕ) (question : Question) (v : ℕ) → StartsOne q (after_question q t question v)
unfolding after_question
starts_question q t question v = starts_settled q (asked q t question v) (starts_asked q t question v)

starts_taken : (q : WaitQueue) (t : ℕ) → StartsOne q (after_answer q t)
unfolding after_answer
starts_taken q t = inl refl

starts_ask : (q : WaitQueue) (t : ℕ) (question : Question) (reply : Reply) → StartsOne q (queue_step q t (Ask question) reply)
starts_ask q t question OutOfBounds = inl refl
starts_ask q t question (Value v) = starts_question q t question v
starts_ask q t question Done = starts_question q t question 0
starts_ask q t question Again = starts_question q t question 0
starts_ask q t question Full = starts_question q t question 0

starts_step : (q : WaitQueue) (t : ℕ) (event : Event) (reply : Reply) → StartsOne q (queue_step q t event reply)
starts_step q t (Ask question) reply = starts_ask q t question reply
starts_step q t (Told answer) reply = starts_taken q t
starts_step q t _ reply = inl refl

-- a number that was given out is a live thread's
abbrev IsThere : ℕ → WaitQueue → Type 0
IsThere n q = n < next_id q → is_alive q n ≡ true

there_step : (n t : ℕ) (q : WaitQueue) (event : Event) (reply : Reply) → t ≢ n → IsAllowed q t event → IsSound q
    → IsThere n q → IsThere n (queue_step q t event reply)
there_step n t q event reply apart allowed sound there known =
    elim (cases_lt n (next_id q)) [
      | inl before ↦ (let kept : Keeps n q (queue_step q t event reply) = Keeps-step n t q event reply apart allowed sound in kept.alive (there before))
      | inr unknown ↦ elim (starts_step q t event reply) [
        | inl same ↦ absurd (omega (arith, ap length same, unknown, known))
        | inr started ↦ (let is : next_id q ≡ n = omega (arith, started.0, unknown, known) in
            subst (λ (k : ℕ). is_alive (queue_step q t event reply) k ≡ true) is started.1)
      ]
    ]

pub not_own : (n : ℕ) (e : Entry) (xs : List Entry) → entries_of n (e ∷ xs) ≡ [] → (e.thread ≢ n) × (entries_of n xs ≡ [])
not_own n e xs none =
    cond_both (e.thread == n) (e ∷ entries_of n xs) (entries_of n xs) (λ w. w ≡ [] → (e.thread ≢ n) × (entries_of n xs ≡ []))
    (λ is bad. absurd (cc bad)) (λ isnt rest. ((λ same. eqb-false e.thread n isnt same), rest)) none

there_from : (n : ℕ) (q : WaitQueue) (xs : List Entry) → entries_of n xs ≡ [] → IsQueueLegalFrom q xs → IsSound q → IsThere n q → IsThere n (queue_from q xs)
there_from n q [] none legal sound there = there
there_from n q (e ∷ xs) none legal sound there =
    let parts : (e.thread ≢ n) × (entries_of n xs ≡ []) = not_own n e xs none in
    there_from n (queue_step q e.thread e.event e.reply) xs parts.1 legal.1 (IsSound-step q e.thread e.event e.reply legal.0 sound)
    (there_step n e.thread q e.event e.reply parts.0 legal.0 sound there)

pub none_of_queue : (n : ℕ) (xs : List Entry) → entries_of n xs ≡ [] → entries_of n (of_queue xs) ≡ []
none_of_queue n [] none = refl
none_of_queue n (e ∷ xs) none =
    let parts : (e.thread ≢ n) × (entries_of n xs ≡ []) = not_own n e xs none in
    let rest : entries_of n (of_queue xs) ≡ [] = none_of_queue n xs parts.1 in
    cond_both (is_of_queue e.event) (e ∷ of_queue xs) (of_queue xs) (λ w. entries_of n w ≡ [])
    (λ is. cond-false (e.thread == n) (e ∷ entries_of n (of_queue xs)) (entries_of n (of_queue xs)) (ne_eqb e.thread n parts.0) ∙ rest) (λ isnt. rest)

there_first : (most n : ℕ) → IsThere n (first_queue most)
unfolding first_queue
there_first most zero known = refl
there_first most (suc n) known = absurd (omega arith)

-- who was spawned and has entered nothing is alive
spawned_alive : (n : ℕ) (history : List Entry) → entries_of n history ≡ [] → IsQueueLegal history
    → n < next_id (queue_after history) → is_alive (queue_after history) n ≡ true
unfolding queue_after IsQueueLegal
spawned_alive n history none legal known = there_from n (first_queue MOST_THREADS) (of_queue history) (none_of_queue n history none) legal IsSound-first
    (there_first MOST_THREADS n) known

has_number : (q : WaitQueue) (n arg : ℕ) → arg_of q n ≡ Some arg → n < next_id q
has_number q zero arg is = absurd (cc is)
has_number q (suc n) arg is = omega (arith, slice_get_within q.args n arg is)

pub spawned_free : (n arg : ℕ) (history : List Entry) → entries_of n history ≡ [] → IsQueueLegal history
    → arg_of (queue_after history) n ≡ Some arg → IsFree (queue_after history) n
spawned_free n arg history none legal is =
    elim (newcomer n history none legal) [
      | inl absent ↦ absurd (both_ways (is_alive (queue_after history) n) absent.alive
          (spawned_alive n history none legal (has_number (queue_after history) n arg is)))
      | inr free ↦ free
    ]

-- what a thread is told where it begins
pub begins_with : (opening : Memory) (q : WaitQueue) (n : ℕ) (before after : List Entry) (o : Option ℕ)
    → o ≡ arg_of q n → MayBegin q n → IsBeside q after → entries_of n before ≡ []
    → EntersAtDesk opening n [] before after → entries_of n after ≡ []
    → BeginsOrNever opening n before after o
begins_with opening q n before after None is may beside new enters none = record {
  enters = enters;
  unspawned = ap (λ (w : WaitQueue). arg_of w n) (sym beside.tied) ∙ sym is;
  over = ap (λ (w : WaitQueue). w.alive) (sym beside.tied) ∙ may (sym is);
}
begins_with opening q n before after (Some arg) is may beside new enters none =
    let spawned : arg_of (queue_after after) n ≡ Some arg = ap (λ (w : WaitQueue). arg_of w n) (sym beside.tied) ∙ sym is in
    record { enters = enters; spawned = spawned; free = spawned_free n arg after none beside.legal spawned }
