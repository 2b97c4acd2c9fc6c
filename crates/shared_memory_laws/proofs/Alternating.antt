-- That the questions of a thread and the answers that it took alternate.
use Rattle.std.proofs.Common.{◌≡◌, ℕ, ◌==◌, Bool, true, false, ◌||◌, cond, List, [], ◌∷◌, refl, sym, ◌∙◌, ap, subst, inl, inr}
use Rattle.std.specs.Prelude.{is_some}
use Rattle.std.specs.List.{filter}
use Rattle.std.proofs.lemmas.Bool.{cond_both, cond-true, cond-false, cases_Bool, eqb-true, eqb-false, or_right}
use Rattle.types.specs.declared.event.Entry.{Entry}
use Rattle.types.specs.declared.event.Event.{Event}
use Rattle.types.specs.declared.event.Event.TheVariants.{Ask, Told}
use Rattle.types.specs.declared.event.Reply.{Reply}
use Rattle.types.specs.declared.event.Reply.TheVariants.{Value, Done, OutOfBounds, Again, Full}
use Rattle.types.specs.declared.limits.TheConstants.{MOST_THREADS}
use Rattle.shared_memory.specs.Events.{is_of_queue}
use Rattle.shared_memory.specs.WaitQueue.{WaitQueue, first_queue, is_asleep, answer_due, after_answer, IsFree, has_open_question}
use Rattle.shared_memory.specs.History.{entry, entries_of, of_queue, queue_step, queue_after}
use Rattle.shared_memory.specs.Legal.{IsAllowed, IsQueueLegalFrom, IsQueueLegal}
use Rattle.shared_memory.specs.Sound.{IsSound}
use Rattle.shared_memory.proofs.Soundness.{IsSound-step, IsSound-first}
use Rattle.shared_memory.proofs.Others.{Keeps, Keeps-step}
use Rattle.shared_memory.proofs.Standing.{quiet_not_open, quiet_from_not_open, quiet_first}
use Rattle.shared_memory.proofs.Turns.{open_step, quiet_answer}
use Rattle.shared_memory_laws.specs.Exchanges.{is_question, is_answer, is_exchange, exchanges_of, Alternate}

-- These exchanges alternate, and begin with an answer where a question is open.
abbrev TakeTurns : Bool → List Entry → Type 0
TakeTurns is_open [] = Unit {0}
TakeTurns false (e ∷ es) = (is_question e.event e.reply ≡ true) × TakeTurns true es
TakeTurns true (e ∷ es) = (is_answer e.event ≡ true) × TakeTurns false es

from_turns : (es : List Entry) → TakeTurns false es → Alternate es
from_turns [] h = tt
from_turns (q ∷ []) h = h.0
from_turns (q ∷ a ∷ es) h = (h.0, h.1.0, from_turns es h.1.1)

-- a question is asked where none is open
asks : (q : WaitQueue) (n : ℕ) (r : WaitQueue) (e : Entry) (es : List Entry) → IsFree q n → has_open_question r n ≡ true → is_question e.event e.reply ≡ true
    → TakeTurns (has_open_question r n) es → TakeTurns (has_open_question q n) (e ∷ es)
asks q n r e es free now is h =
    let closed : has_open_question q n ≡ false = quiet_not_open q n (record { awake = free.awake; told = free.told }) in
    let rest : TakeTurns true es = subst (λ b. TakeTurns b es) now h in
    let all : TakeTurns false (e ∷ es) = (is, rest) in
    subst (λ b. TakeTurns b (e ∷ es)) (sym closed) all

-- one's own entry
own_step : (q : WaitQueue) (n : ℕ) (event : Event) (reply : Reply) (es : List Entry) → IsAllowed q n event → IsSound q
    → TakeTurns (has_open_question (queue_step q n event reply) n) es
    → TakeTurns (has_open_question q n) (cond (is_exchange (entry n event reply)) (entry n event reply ∷ es) es)
own_step q n (Ask question) OutOfBounds es free sound h = h
own_step q n (Ask question) (Value v) es free sound h =
    asks q n (queue_step q n (Ask question) (Value v))
    (entry n (Ask question) (Value v)) es free (open_step q n question (Value v) (λ bad. cc bad) free sound) refl h
own_step q n (Ask question) Done es free sound h =
    asks q n (queue_step q n (Ask question) Done) (entry n (Ask question) Done) es free (open_step q n question Done (λ bad. cc bad) free sound) refl h
own_step q n (Ask question) Again es free sound h =
    asks q n (queue_step q n (Ask question) Again) (entry n (Ask question) Again) es free (open_step q n question Again (λ bad. cc bad) free sound) refl h
own_step q n (Ask question) Full es free sound h =
    asks q n (queue_step q n (Ask question) Full) (entry n (Ask question) Full) es free (open_step q n question Full (λ bad. cc bad) free sound) refl h
own_step q n (Told answer) reply es due sound h =
    let is_open : has_open_question q n ≡ true = or_right (is_asleep q n) (is_some (answer_due q n)) (ap is_some due) in
    let closed : has_open_question (after_answer q n) n ≡ false = quiet_not_open (after_answer q n) n (quiet_answer q n answer due sound) in
    let rest : TakeTurns false es = subst (λ b. TakeTurns b es) closed h in
    let all : TakeTurns true (entry n (Told answer) reply ∷ es) = (refl, rest) in
    subst (λ b. TakeTurns b (entry n (Told answer) reply ∷ es)) (sym is_open) all
own_step q n _ reply es allowed sound h = h

-- another's entry leaves the question as it is
other_step : (q r : WaitQueue) (n : ℕ) (es : List Entry) → Keeps n q r → TakeTurns (has_open_question r n) es → TakeTurns (has_open_question q n) es
other_step q r n es kept h =
    elim (cases_Bool (has_open_question q n)) [
      | inl is ↦ subst (λ b. TakeTurns b es) (kept.waits is ∙ sym is) h
      | inr isnt ↦ subst (λ b. TakeTurns b es) (quiet_not_open r n (kept.quiet (quiet_from_not_open q n isnt)) ∙ sym isnt) h
    ]

one_step : (n : ℕ) (q : WaitQueue) (e : Entry) (es : List Entry) (same : Bool) → (e.thread == n) ≡ same → IsAllowed q e.thread e.event → IsSound q
    → TakeTurns (has_open_question (queue_step q e.thread e.event e.reply) n) (exchanges_of n es) → TakeTurns (has_open_question q n) (exchanges_of n (e ∷ es))
one_step n q e es true is allowed sound h =
    let own : e.thread ≡ n = eqb-true e.thread n is in
    let mine : TakeTurns (has_open_question q e.thread) (cond (is_exchange e) (e ∷ exchanges_of n es) (exchanges_of n es)) =
    own_step q e.thread e.event e.reply (exchanges_of n es) allowed sound
    (subst (λ (k : ℕ). TakeTurns (has_open_question (queue_step q e.thread e.event e.reply) k) (exchanges_of n es)) (sym own) h) in
    let here : TakeTurns (has_open_question q n) (cond (is_exchange e) (e ∷ exchanges_of n es) (exchanges_of n es)) =
    subst (λ (k : ℕ). TakeTurns (has_open_question q k) (cond (is_exchange e) (e ∷ exchanges_of n es) (exchanges_of n es))) own mine in
    subst (λ w. TakeTurns (has_open_question q n) (filter (λ (d : Entry). is_exchange d) w))
    (sym (cond-true (e.thread == n) (e ∷ entries_of n es) (entries_of n es) is)) here
one_step n q e es false isnt allowed sound h =
    let here : TakeTurns (has_open_question q n) (exchanges_of n es) =
    other_step q (queue_step q e.thread e.event e.reply) n (exchanges_of n es)
    (Keeps-step n e.thread q e.event e.reply (eqb-false e.thread n isnt) allowed sound) h in
    subst (λ w. TakeTurns (has_open_question q n) (filter (λ (d : Entry). is_exchange d) w))
    (sym (cond-false (e.thread == n) (e ∷ entries_of n es) (entries_of n es) isnt)) here

turns : (n : ℕ) (q : WaitQueue) (xs : List Entry) → IsQueueLegalFrom q xs → IsSound q → TakeTurns (has_open_question q n) (exchanges_of n xs)
turns n q [] legal sound = tt
turns n q (e ∷ xs) legal sound =
    one_step n q e xs (e.thread == n) refl legal.0 sound
    (turns n (queue_step q e.thread e.event e.reply) xs legal.1 (IsSound-step q e.thread e.event e.reply legal.0 sound))

-- each exchange is of the queue
exchange_of_queue : (event : Event) (reply : Reply) → is_of_queue event ≡ false → (is_question event reply || is_answer event) ≡ false
exchange_of_queue (Ask question) reply isnt = absurd (cc isnt)
exchange_of_queue (Told answer) reply isnt = absurd (cc isnt)
exchange_of_queue _ reply isnt = refl

pub same_exchanges : (n : ℕ) (xs : List Entry) → exchanges_of n (of_queue xs) ≡ exchanges_of n xs
same_exchanges n [] = refl
same_exchanges n (e ∷ xs) =
    let rest : exchanges_of n (of_queue xs) ≡ exchanges_of n xs = same_exchanges n xs in
    cond_both (is_of_queue e.event) (e ∷ of_queue xs) (of_queue xs) (λ w. exchanges_of n w ≡ exchanges_of n (e ∷ xs))
    (λ is. both (e.thread == n) e rest) (λ isnt. rest ∙ sym (none (e.thread == n) e (exchange_of_queue e.event e.reply isnt)))
  where
    both : (b : Bool) (d : Entry) → exchanges_of n (of_queue xs) ≡ exchanges_of n xs
        → filter (λ (f : Entry). is_exchange f) (cond b (d ∷ entries_of n (of_queue xs)) (entries_of n (of_queue xs)))
        ≡ filter (λ (f : Entry). is_exchange f) (cond b (d ∷ entries_of n xs) (entries_of n xs))
    both true d same = ap (λ w. cond (is_exchange d) (d ∷ w) w) same
    both false d same = same

    none : (b : Bool) (d : Entry) → is_exchange d ≡ false
        → filter (λ (f : Entry). is_exchange f) (cond b (d ∷ entries_of n xs) (entries_of n xs)) ≡ exchanges_of n xs
    none true d isnt = cond-false (is_exchange d) (d ∷ exchanges_of n xs) (exchanges_of n xs) isnt
    none false d isnt = refl

pub none_open : (n : ℕ) → has_open_question (queue_after []) n ≡ false
none_open n = quiet_not_open (queue_after []) n (quiet_first n)

pub exchanges_alternate : (history : List Entry) (n : ℕ) → IsQueueLegal history → Alternate (exchanges_of n history)
unfolding IsQueueLegal queue_after
exchanges_alternate history n legal =
    let all : TakeTurns (has_open_question (first_queue MOST_THREADS) n) (exchanges_of n (of_queue history)) = turns n (first_queue MOST_THREADS)
    (of_queue history) legal IsSound-first in
    let from : TakeTurns false (exchanges_of n (of_queue history)) = subst (λ b. TakeTurns b (exchanges_of n (of_queue history))) (none_open n) all in
    subst (λ w. Alternate w) (same_exchanges n history) (from_turns (exchanges_of n (of_queue history)) from)
