-- How many threads there may be stays as it is at first.
use Rattle.std.proofs.Common.{◌≡◌, ℕ, not, ◌==◌, cond, List, [], ◌∷◌, length, Option, None, refl, ◌∙◌, length-set}
use Rattle.std.specs.Prelude.{nat_lt}
use Rattle.std.proofs.lemmas.Bool.{cond_both}
use Rattle.std.proofs.lemmas.List.{length-replicate}
use Rattle.types.specs.declared.event.Entry.{Entry}
use Rattle.types.specs.declared.event.Event.{Event}
use Rattle.types.specs.declared.event.Event.TheVariants.{Ask, Told}
use Rattle.types.specs.declared.event.Question.{Question}
use Rattle.types.specs.declared.event.Question.TheVariants.{Wait, Notify, Spawn, Leave}
use Rattle.types.specs.declared.event.Answer.{Answer}
use Rattle.types.specs.declared.event.Answer.TheVariants.{Number}
use Rattle.types.specs.declared.event.Reply.{Reply}
use Rattle.types.specs.declared.event.Reply.TheVariants.{Value, Done, OutOfBounds, Again, Full}
use Rattle.types.specs.declared.limits.TheConstants.{MOST_THREADS}
use Rattle.shared_memory.specs.declared.sleeper.Sleeper.{Sleeper}
use Rattle.shared_memory.specs.WaitQueue.{WaitQueue, first_queue, next_id, tells, wakes, sleeps, starts, woken_at, ends_at_once}
use Rattle.shared_memory.specs.WaitQueue.{ended, end_answer, is_stuck, settled, asked, after_question, after_answer}
use Rattle.shared_memory.specs.History.{of_queue, queue_step, queue_from, queue_after}
use Rattle.shared_memory.proofs.Sleepers.{length-due_after}

-- of two queues, that they have places for as many
abbrev AsMany : WaitQueue → WaitQueue → Type 0
AsMany q r = length r.due ≡ length q.due

as_many_tells : (q r : WaitQueue) (n : ℕ) (a : Answer) → AsMany q r → AsMany q (tells n a r)
as_many_tells q r n a is = length-set r.due n _ ∙ is

as_many_wakes : (q r : WaitQueue) (woken : List Sleeper) (a : Answer) → AsMany q r → AsMany q (wakes woken a r)
as_many_wakes q r woken a is = length-due_after woken a r.due ∙ is

as_many_settled : (q r : WaitQueue) → AsMany q r → AsMany q (settled r)
as_many_settled q r is =
    cond_both (is_stuck r) (wakes (ended r.sleepers) (end_answer r.sleepers) r) r (λ w. AsMany q w)
    (λ e. as_many_wakes q r (ended r.sleepers) (end_answer r.sleepers) is) (λ e. is)

as_many_asked : (q : WaitQueue) (n : ℕ) (question : Question) (v : ℕ) → AsMany q (asked q n question v)
as_many_asked q n (Wait addr width expected timeout) v =
    let s : Sleeper = record { thread = n; addr = addr; timeout = timeout } in
    cond_both (not (v == expected)) (tells n (Number 1) q) (cond (ends_at_once timeout) (tells n (Number 2) q) (sleeps s q)) (λ w. AsMany q w)
    (λ e. as_many_tells q q n (Number 1) refl)
    (λ e. cond_both (ends_at_once timeout) (tells n (Number 2) q) (sleeps s q) (λ w. AsMany q w)
    (λ d. as_many_tells q q n (Number 2) refl) (λ d. refl))
as_many_asked q n (Notify addr count) v =
    let woken : List Sleeper = woken_at addr count q.sleepers in
    as_many_tells q (wakes woken (Number 0) q) n (Number (length woken)) (as_many_wakes q q woken (Number 0) refl)
as_many_asked q n (Spawn arg) v =
    cond_both (nat_lt (next_id q) (length q.due)) (tells n (Number (next_id q)) (starts arg q)) (tells n (Number 4294967295) q) (λ w. AsMany q w)
    (λ e. as_many_tells q (starts arg q) n (Number (next_id q)) refl) (λ e. as_many_tells q q n (Number 4294967295) refl)
as_many_asked q n Leave v = length-set q.due n _

-- after a question
pub due_length_question : (q : WaitQueue) (n : ℕ) (question : Question) (v : ℕ) → length (after_question q n question v).due ≡ length q.due
unfolding after_question
due_length_question q n question v = as_many_settled q (asked q n question v) (as_many_asked q n question v)

due_length_ask : (q : WaitQueue) (n : ℕ) (question : Question) (reply : Reply) → AsMany q (queue_step q n (Ask question) reply)
due_length_ask q n question OutOfBounds = refl
due_length_ask q n question (Value v) = due_length_question q n question v
due_length_ask q n question Done = due_length_question q n question 0
due_length_ask q n question Again = due_length_question q n question 0
due_length_ask q n question Full = due_length_question q n question 0

due_length_answer : (q : WaitQueue) (n : ℕ) → AsMany q (after_answer q n)
unfolding after_answer
due_length_answer q n = length-set q.due n None

-- after any event
pub due_length_step : (q : WaitQueue) (n : ℕ) (event : Event) (reply : Reply) → length (queue_step q n event reply).due ≡ length q.due
due_length_step q n (Ask question) reply = due_length_ask q n question reply
due_length_step q n (Told answer) reply = due_length_answer q n
due_length_step q n _ reply = refl

due_length_from : (q : WaitQueue) (xs : List Entry) → AsMany q (queue_from q xs)
due_length_from q [] = refl
due_length_from q (e ∷ xs) = due_length_from (queue_step q e.thread e.event e.reply) xs ∙ due_length_step q e.thread e.event e.reply

pub due_length_first : (most : ℕ) → length (first_queue most).due ≡ most
unfolding first_queue
due_length_first most = length-replicate {A = Option Answer} most None

-- after a history
pub due_length_after : (history : List Entry) → length (queue_after history).due ≡ MOST_THREADS
unfolding queue_after
due_length_after history = due_length_from (first_queue MOST_THREADS) (of_queue history) ∙ due_length_first MOST_THREADS
