-- That a thread has an open question just while its last question is without an answer.
use Rattle.std.proofs.Common.{◌≡◌, ◌≢◌, ℕ, ◌==◌, Bool, true, false, not, cond, List, [], ◌∷◌, refl, sym, ◌∙◌, ap, subst, inl, inr}
use Rattle.std.specs.Prelude.{is_some}
use Rattle.std.specs.List.{filter}
use Rattle.std.proofs.lemmas.Bool.{cond-true, cond-false, cases_Bool, eqb-true, eqb-false, or_right}
use Rattle.types.specs.declared.event.Entry.{Entry}
use Rattle.types.specs.declared.event.Event.{Event}
use Rattle.types.specs.declared.event.Event.TheVariants.{Ask, Told}
use Rattle.types.specs.declared.event.Question.{Question}
use Rattle.types.specs.declared.event.Reply.{Reply}
use Rattle.types.specs.declared.event.Reply.TheVariants.{Value, Done, OutOfBounds, Again, Full}
use Rattle.types.specs.declared.limits.TheConstants.{MOST_THREADS}
use Rattle.shared_memory.specs.WaitQueue.{WaitQueue, first_queue, is_asleep, answer_due, after_answer, IsFree, has_open_question}
use Rattle.shared_memory.specs.History.{entry, entries_of, of_queue, queue_step, queue_from, queue_after}
use Rattle.shared_memory.specs.Legal.{IsAllowed, IsQueueLegalFrom, IsQueueLegal}
use Rattle.shared_memory.specs.Sound.{IsSound}
use Rattle.shared_memory.proofs.Soundness.{IsSound-step, IsSound-first}
use Rattle.shared_memory.proofs.Others.{Keeps, Keeps-step}
use Rattle.shared_memory.proofs.Standing.{quiet_not_open, quiet_from_not_open}
use Rattle.shared_memory.proofs.Turns.{open_step, quiet_answer}
use Rattle.shared_memory_laws.specs.Exchanges.{is_exchange, exchanges_of, lacks_an_answer}
use Rattle.shared_memory_laws.proofs.Alternating.{same_exchanges, none_open}

-- Whether a question is open after these exchanges.
abbrev open_after : Bool → List Entry → Bool
open_after is_open [] = is_open
open_after is_open (e ∷ es) = open_after (not is_open) es

open_lacks : (es : List Entry) → open_after false es ≡ lacks_an_answer es
open_lacks [] = refl
open_lacks (q ∷ []) = refl
open_lacks (q ∷ a ∷ es) = open_lacks es

-- a question opens
opens : (q : WaitQueue) (n : ℕ) (question : Question) (reply : Reply) → reply ≢ OutOfBounds → IsFree q n → IsSound q
    → not (has_open_question q n) ≡ has_open_question (queue_step q n (Ask question) reply) n
opens q n question reply within free sound =
    ap not (quiet_not_open q n (record { awake = free.awake; told = free.told })) ∙ sym (open_step q n question reply within free sound)

own_open : (q : WaitQueue) (n : ℕ) (event : Event) (reply : Reply) (es : List Entry) → IsAllowed q n event → IsSound q
    → open_after (has_open_question q n) (cond (is_exchange (entry n event reply)) (entry n event reply ∷ es) es)
    ≡ open_after (has_open_question (queue_step q n event reply) n) es
own_open q n (Ask question) OutOfBounds es free sound = refl
own_open q n (Ask question) (Value v) es free sound = ap (λ b. open_after b es) (opens q n question (Value v) (λ bad. cc bad) free sound)
own_open q n (Ask question) Done es free sound = ap (λ b. open_after b es) (opens q n question Done (λ bad. cc bad) free sound)
own_open q n (Ask question) Again es free sound = ap (λ b. open_after b es) (opens q n question Again (λ bad. cc bad) free sound)
own_open q n (Ask question) Full es free sound = ap (λ b. open_after b es) (opens q n question Full (λ bad. cc bad) free sound)
own_open q n (Told answer) reply es due sound =
    let is_open : has_open_question q n ≡ true = or_right (is_asleep q n) (is_some (answer_due q n)) (ap is_some due) in
    let closed : has_open_question (after_answer q n) n ≡ false = quiet_not_open (after_answer q n) n (quiet_answer q n answer due sound) in
    ap (λ b. open_after b es) (ap not is_open ∙ sym closed)
own_open q n _ reply es allowed sound = refl

-- another's entry leaves it as it is
same_kept : (q r : WaitQueue) (n : ℕ) → Keeps n q r → has_open_question q n ≡ has_open_question r n
same_kept q r n kept =
    elim (cases_Bool (has_open_question q n)) [
      | inl is ↦ is ∙ sym (kept.waits is)
      | inr isnt ↦ isnt ∙ sym (quiet_not_open r n (kept.quiet (quiet_from_not_open q n isnt)))
    ]

one_open : (n : ℕ) (q : WaitQueue) (e : Entry) (es : List Entry) (same : Bool) → (e.thread == n) ≡ same → IsAllowed q e.thread e.event → IsSound q
    → open_after (has_open_question q n) (exchanges_of n (e ∷ es)) ≡ open_after
    (has_open_question (queue_step q e.thread e.event e.reply) n) (exchanges_of n es)
one_open n q e es true is allowed sound =
    let here : open_after (has_open_question q n) (cond (is_exchange e) (e ∷ exchanges_of n es) (exchanges_of n es))
    ≡ open_after (has_open_question (queue_step q e.thread e.event e.reply) n) (exchanges_of n es) =
    subst (λ (k : ℕ). open_after (has_open_question q k) (cond (is_exchange e) (e ∷ exchanges_of n es) (exchanges_of n es))
    ≡ open_after (has_open_question (queue_step q e.thread e.event e.reply) k) (exchanges_of n es))
    (eqb-true e.thread n is) (own_open q e.thread e.event e.reply (exchanges_of n es) allowed sound) in
    ap (λ w. open_after (has_open_question q n) (filter (λ (d : Entry). is_exchange d) w))
    (cond-true (e.thread == n) (e ∷ entries_of n es) (entries_of n es) is) ∙ here
one_open n q e es false isnt allowed sound =
    ap (λ w. open_after (has_open_question q n) (filter (λ (d : Entry). is_exchange d) w))
    (cond-false (e.thread == n) (e ∷ entries_of n es) (entries_of n es) isnt)
    ∙ ap (λ b. open_after b (exchanges_of n es))
    (same_kept q (queue_step q e.thread e.event e.reply) n (Keeps-step n e.thread q e.event e.reply (eqb-false e.thread n isnt) allowed sound))

all_open : (n : ℕ) (q : WaitQueue) (xs : List Entry) → IsQueueLegalFrom q xs → IsSound q
    → open_after (has_open_question q n) (exchanges_of n xs) ≡ has_open_question (queue_from q xs) n
all_open n q [] legal sound = refl
all_open n q (e ∷ xs) legal sound =
    one_open n q e xs (e.thread == n) refl legal.0 sound
    ∙ all_open n (queue_step q e.thread e.event e.reply) xs legal.1 (IsSound-step q e.thread e.event e.reply legal.0 sound)

pub open_until_answered : (history : List Entry) (n : ℕ) → IsQueueLegal history
    → has_open_question (queue_after history) n ≡ lacks_an_answer (exchanges_of n history)
unfolding IsQueueLegal queue_after
open_until_answered history n legal =
    sym (all_open n (first_queue MOST_THREADS) (of_queue history) legal IsSound-first)
    ∙ (ap (λ b. open_after b (exchanges_of n (of_queue history))) (none_open n)
    ∙ (ap (λ w. open_after false w) (same_exchanges n history) ∙ open_lacks (exchanges_of n history)))
