-- Who was spawned: arguments stay, and none comes once nobody is alive.
use Rattle.std.proofs.Common.{◌≡◌, ℕ, zero, suc, ◌==◌, false, not, cond, List, [], ◌∷◌, ◌++◌, length, Some, None, refl, sym, ◌∙◌, ap, subst, slice_get}
use Rattle.std.specs.Prelude.{nat_lt}
use Rattle.std.specs.List.{list_any}
use Rattle.std.proofs.lemmas.Bool.{cond_both, both_ways}
use mathlib.Core.List.{IsPrefix}
use Rattle.types.specs.declared.event.Entry.{Entry}
use Rattle.types.specs.declared.event.Event.{Event}
use Rattle.types.specs.declared.event.Event.TheVariants.{Ask, Told}
use Rattle.types.specs.declared.event.Question.{Question}
use Rattle.types.specs.declared.event.Question.TheVariants.{Wait, Notify, Spawn, Leave}
use Rattle.types.specs.declared.event.Answer.TheVariants.{Number}
use Rattle.types.specs.declared.event.Reply.{Reply}
use Rattle.types.specs.declared.event.Reply.TheVariants.{Value, Done, OutOfBounds, Again, Full}
use Rattle.types.specs.declared.limits.TheConstants.{MOST_THREADS}
use Rattle.shared_memory.specs.declared.sleeper.Sleeper.{Sleeper}
use Rattle.shared_memory.specs.WaitQueue.{WaitQueue, first_queue, is_alive, next_id, tells, wakes, sleeps, starts}
use Rattle.shared_memory.specs.WaitQueue.{ends_at_once, ended, end_answer, is_stuck, settled, asked, after_question}
use Rattle.shared_memory.specs.WaitQueue.{after_answer}
use Rattle.shared_memory.specs.History.{of_queue, queue_step, queue_from, queue_after}
use Rattle.shared_memory.specs.Legal.{IsAllowed, IsQueueLegalFrom, IsQueueLegal}
use Rattle.shared_memory.proofs.Histories.{of_queue-append, queue_from-append, IsQueueLegalFrom-rest}
use Rattle.waiters.specs.Queue.{arg_of}
use Rattle.waiters_desk.proofs.Prefixes.{prefix_trans, prefix_same}

-- the arguments go on
abbrev ArgsGrow : WaitQueue → WaitQueue → Type 0
ArgsGrow q r = IsPrefix q.args r.args

stay : (q : WaitQueue) → ArgsGrow q q
stay q = prefix_same q.args q.args refl

settled_grow : (q r : WaitQueue) → ArgsGrow q r → ArgsGrow q (settled r)
settled_grow q r h = cond_both (is_stuck r) (wakes (ended r.sleepers) (end_answer r.sleepers) r) r (λ w. ArgsGrow q w) (λ e. h) (λ e. h)

asked_grow : (q : WaitQueue) (t : ℕ) (question : Question) (v : ℕ) → ArgsGrow q (asked q t question v)
asked_grow q t (Wait addr width expected timeout) v =
    let s : Sleeper = record { thread = t; addr = addr; timeout = timeout } in
    cond_both (not (v == expected)) (tells t (Number 1) q) (cond (ends_at_once timeout) (tells t (Number 2) q) (sleeps s q)) (λ w. ArgsGrow q w) (λ e. stay q)
    (λ e. cond_both (ends_at_once timeout) (tells t (Number 2) q) (sleeps s q) (λ w. ArgsGrow q w) (λ d. stay q) (λ d. stay q))
asked_grow q t (Notify addr count) v = stay q
asked_grow q t (Spawn arg) v =
    cond_both (nat_lt (next_id q) (length q.due)) (tells t (Number (next_id q)) (starts arg q))
    (tells t (Number 4294967295) q) (λ w. ArgsGrow q w) (λ e. (arg ∷ [], refl)) (λ e. stay q)
asked_grow q t Leave v = stay q

question_grow : (q : WaitQueue) (t : ℕ) (question : Question) (v : ℕ) → ArgsGrow q (after_question q t question v)
unfolding after_question
question_grow q t question v = settled_grow q (asked q t question v) (asked_grow q t question v)

answer_grow : (q : WaitQueue) (t : ℕ) → ArgsGrow q (after_answer q t)
unfolding after_answer
answer_grow q t = stay q

ask_grow : (q : WaitQueue) (t : ℕ) (question : Question) (reply : Reply) → ArgsGrow q (queue_step q t (Ask question) reply)
ask_grow q t question OutOfBounds = stay q
ask_grow q t question (Value v) = question_grow q t question v
ask_grow q t question Done = question_grow q t question 0
ask_grow q t question Again = question_grow q t question 0
ask_grow q t question Full = question_grow q t question 0

step_grow : (q : WaitQueue) (t : ℕ) (event : Event) (reply : Reply) → ArgsGrow q (queue_step q t event reply)
step_grow q t (Ask question) reply = ask_grow q t question reply
step_grow q t (Told answer) reply = answer_grow q t
step_grow q t _ reply = stay q

from_grow : (q : WaitQueue) (xs : List Entry) → ArgsGrow q (queue_from q xs)
from_grow q [] = stay q
from_grow q (e ∷ xs) =
    let r : WaitQueue = queue_step q e.thread e.event e.reply in
    prefix_trans q.args r.args (WaitQueue.args (queue_from r xs)) (step_grow q e.thread e.event e.reply) (from_grow r xs)

later : (xs ys : List Entry) → queue_after (xs ++ ys) ≡ queue_from (queue_after xs) (of_queue ys)
unfolding queue_after
later xs ys = ap (queue_from (first_queue MOST_THREADS)) (of_queue-append xs ys) ∙ queue_from-append (first_queue MOST_THREADS) (of_queue xs) (of_queue ys)

got : (xs ys : List ℕ) (k arg : ℕ) → slice_get xs k ≡ Some arg → slice_get (xs ++ ys) k ≡ Some arg
got [] ys k arg h = absurd (cc h)
got (x ∷ xs) ys zero arg h = h
got (x ∷ xs) ys (suc k) arg h = got xs ys k arg h

pub arg_stays : (xs zs : List Entry) (n arg : ℕ) → IsPrefix xs zs → arg_of (queue_after xs) n ≡ Some arg → arg_of (queue_after zs) n ≡ Some arg
arg_stays xs zs zero arg p h = absurd (cc h)
arg_stays xs zs (suc n) arg p h =
    let q : WaitQueue = queue_after xs in
    let grown : ArgsGrow q (queue_from q (of_queue p.0)) = from_grow q (of_queue p.0) in
    let same : queue_after zs ≡ queue_from q (of_queue p.0) = ap queue_after (sym p.1) ∙ later xs p.0 in
    ap (λ (w : WaitQueue). slice_get w.args n) same ∙ (ap (λ w. slice_get w n) (sym grown.1) ∙ got q.args grown.0 n arg h)

-- where nobody is alive nothing is asked any more

over_step : (q : WaitQueue) (t : ℕ) (event : Event) (reply : Reply) → q.alive ≡ [] → IsAllowed q t event
    → (WaitQueue.alive (queue_step q t event reply) ≡ []) × (WaitQueue.args (queue_step q t event reply) ≡ q.args)
unfolding after_answer
over_step q t (Ask question) reply over allowed =
    let nobody : is_alive q t ≡ false = ap (λ ns. list_any (λ m. m == t) ns) over in absurd (both_ways (is_alive q t) nobody allowed.alive)
over_step q t (Told answer) reply over allowed = (over, refl)
over_step q t _ reply over allowed = (over, refl)

over_from : (q : WaitQueue) (xs : List Entry) → q.alive ≡ [] → IsQueueLegalFrom q xs → WaitQueue.args (queue_from q xs) ≡ q.args
over_from q [] over legal = refl
over_from q (e ∷ xs) over legal =
    let r : WaitQueue = queue_step q e.thread e.event e.reply in
    let kept = over_step q e.thread e.event e.reply over legal.0 in
    over_from r xs kept.0 legal.1 ∙ kept.1

legal_rest : (xs ys : List Entry) → IsQueueLegal (xs ++ ys) → IsQueueLegalFrom (queue_after xs) (of_queue ys)
unfolding queue_after IsQueueLegal
legal_rest xs ys legal =
    IsQueueLegalFrom-rest (first_queue MOST_THREADS) (of_queue xs) (of_queue ys)
    (subst (λ w. IsQueueLegalFrom (first_queue MOST_THREADS) w) (of_queue-append xs ys) legal)

pub none_comes : (xs zs : List Entry) (n : ℕ) → IsPrefix xs zs → IsQueueLegal zs
    → WaitQueue.alive (queue_after xs) ≡ [] → arg_of (queue_after xs) n ≡ None → arg_of (queue_after zs) n ≡ None
none_comes xs zs zero p legal over none = refl
none_comes xs zs (suc n) p legal over none =
    let q : WaitQueue = queue_after xs in
    let same : queue_after zs ≡ queue_from q (of_queue p.0) = ap queue_after (sym p.1) ∙ later xs p.0 in
    let args : WaitQueue.args (queue_from q (of_queue p.0)) ≡ q.args =
    over_from q (of_queue p.0) over (legal_rest xs p.0 (subst IsQueueLegal (sym p.1) legal)) in
    ap (λ (w : WaitQueue). slice_get w.args n) same ∙ (ap (λ w. slice_get w n) args ∙ none)
