-- A thread's turns: its question is open from the entry on until it takes the answer, and then it is free again.
use Rattle.std.proofs.Common.{◌≡◌, ◌≢◌, ℕ, ◌<◌, ◌==◌, true, false, not, ◌||◌, cond, List, [], ◌∷◌, ◌++◌, length}
use Rattle.std.proofs.Common.{Option, Some, None, refl, sym, ◌∙◌, ap, subst, inl, inr, arith, get_or, set, get_or-set_same, length-set}
use Rattle.std.specs.Prelude.{nat_lt, is_some}
use Rattle.std.proofs.lemmas.Bool.{or_left, or_right, cond_both, eq-eqb, cases_lt}
use Rattle.std.proofs.lemmas.List.{get_or_past}
use Rattle.std.proofs.lemmas.List.Folds.{list_any-append}
use Rattle.types.specs.declared.event.Entry.{Entry}
use Rattle.types.specs.declared.event.Event.{Event}
use Rattle.types.specs.declared.event.Event.TheVariants.{Ask, Told}
use Rattle.types.specs.declared.event.Question.{Question}
use Rattle.types.specs.declared.event.Question.TheVariants.{Wait, Notify, Spawn, Leave}
use Rattle.types.specs.declared.event.Answer.{Answer}
use Rattle.types.specs.declared.event.Answer.TheVariants.{Number}
use Rattle.types.specs.declared.event.Reply.{Reply}
use Rattle.types.specs.declared.event.Reply.TheVariants.{Value, Done, OutOfBounds, Again, Full}
use Rattle.types.specs.declared.limits.TheConstants.{MOST_THREADS}
use Rattle.shared_memory.specs.declared.sleeper.Sleeper.{Sleeper}
use Rattle.shared_memory.specs.Events.{is_of_queue}
use Rattle.shared_memory.specs.WaitQueue.{WaitQueue, first_queue, is_alive, is_asleep, answer_due, next_id, tells, wakes, sleeps, starts}
use Rattle.shared_memory.specs.WaitQueue.{leaves, woken_at, ends_at_once, settled, asked, after_question, after_answer, IsFree, has_open_question}
use Rattle.shared_memory.specs.History.{entry, of_queue, queue_step, queue_after}
use Rattle.shared_memory.specs.Legal.{IsAllowed, IsQueueLegalFrom, IsQueueLegal, MayEnter}
use Rattle.shared_memory.specs.Sound.{IsSound}
use Rattle.shared_memory.proofs.Histories.{of_queue-append, of_queue-one, of_queue-quiet, queue_after-entry, same_queue}
use Rattle.shared_memory.proofs.Histories.{IsQueueLegalFrom-rest, IsQueueLegal-prefix}
use Rattle.shared_memory.proofs.Sleepers.{length-due_after}
use Rattle.shared_memory.proofs.Soundness.{IsSound-asked, IsSound-after, awake_if_due}
use Rattle.shared_memory.proofs.Others.{IsQuiet, Keeps, Keeps-settled}

-- one more entry, of any kind

-- is the next step
pub queue_after-one : (xs : List Entry) (n : ℕ) (event : Event) (reply : Reply)
    → queue_after (xs ++ entry n event reply ∷ []) ≡ queue_step (queue_after xs) n event reply
queue_after-one xs n (Ask question) reply = queue_after-entry xs n (Ask question) reply refl
queue_after-one xs n (Told answer) reply = queue_after-entry xs n (Told answer) reply refl
queue_after-one xs n event reply = same_queue (xs ++ entry n event reply ∷ []) xs (of_queue-quiet xs (entry n event reply ∷ []) refl)

last_of_queue : (xs : List Entry) (n : ℕ) (event : Event) (reply : Reply) → is_of_queue event ≡ true
    → IsQueueLegal (xs ++ entry n event reply ∷ []) → IsAllowed (queue_after xs) n event
unfolding IsQueueLegal queue_after
last_of_queue xs n event reply is legal =
    let split : of_queue (xs ++ entry n event reply ∷ []) ≡ of_queue xs ++ entry n event reply ∷ [] =
    of_queue-append xs (entry n event reply ∷ []) ∙ ap (λ w. of_queue xs ++ w) (of_queue-one (entry n event reply) is) in
    (IsQueueLegalFrom-rest (first_queue MOST_THREADS) (of_queue xs) (entry n event reply ∷ [])
    (subst (IsQueueLegalFrom (first_queue MOST_THREADS)) split legal)).0

-- and was allowed
pub last_allowed : (xs : List Entry) (n : ℕ) (event : Event) (reply : Reply)
    → IsQueueLegal (xs ++ entry n event reply ∷ []) → IsAllowed (queue_after xs) n event
last_allowed xs n (Ask question) reply legal = last_of_queue xs n (Ask question) reply refl legal
last_allowed xs n (Told answer) reply legal = last_of_queue xs n (Told answer) reply refl legal
last_allowed xs n event reply legal = tt

pub last_may_enter : (xs : List Entry) (n : ℕ) (event : Event) (reply : Reply) → IsQueueLegal (xs ++ entry n event reply ∷ []) → MayEnter n event xs
unfolding MayEnter
last_may_enter xs n event reply legal = last_allowed xs n event reply legal

-- at a question

open_tells : (q : WaitQueue) (n : ℕ) (a : Answer) → n < length q.due → has_open_question (tells n a q) n ≡ true
open_tells q n a within =
    or_right (is_asleep q n) (is_some (answer_due (tells n a q) n)) (ap is_some (get_or-set_same q.due n (Some a) None within))

open_sleeps : (q : WaitQueue) (s : Sleeper) → has_open_question (sleeps s q) s.thread ≡ true
open_sleeps q s =
    or_left (is_asleep (sleeps s q) s.thread) (is_some (answer_due (sleeps s q) s.thread))
    (list_any-append (λ (t : Sleeper). t.thread == s.thread) q.sleepers (s ∷ [])
    ∙ or_right (is_asleep q s.thread) ((s.thread == s.thread) || false) (or_left (s.thread == s.thread) false (eq-eqb s.thread s.thread refl)))

-- the question is open before the queue settles
pub open_asked : (q : WaitQueue) (n : ℕ) (question : Question) (v : ℕ) → IsFree q n → IsSound q → has_open_question (asked q n question v) n ≡ true
open_asked q n question v free sound = go question
  where
    within : n < length q.due
    within = let known : n < next_id q = sound.named n free.alive in omega (arith, sound.few)

    go : (k : Question) → has_open_question (asked q n k v) n ≡ true
    go (Wait addr width expected timeout) =
        let s : Sleeper = record { thread = n; addr = addr; timeout = timeout } in
        cond_both (not (v == expected)) (tells n (Number 1) q)
        (cond (ends_at_once timeout) (tells n (Number 2) q) (sleeps s q)) (λ w. has_open_question w n ≡ true)
        (λ e. open_tells q n (Number 1) within)
        (λ e. cond_both (ends_at_once timeout) (tells n (Number 2) q) (sleeps s q) (λ w. has_open_question w n ≡ true)
        (λ d. open_tells q n (Number 2) within) (λ d. open_sleeps q s))
    go (Notify addr count) =
        let woken : List Sleeper = woken_at addr count q.sleepers in
        open_tells (wakes woken (Number 0) q) n (Number (length woken)) (omega (arith, length-due_after woken (Number 0) q.due, within))
    go (Spawn arg) =
        cond_both (nat_lt (next_id q) (length q.due)) (tells n (Number (next_id q)) (starts arg q))
        (tells n (Number 4294967295) q) (λ w. has_open_question w n ≡ true)
        (λ e. open_tells (starts arg q) n (Number (next_id q)) within) (λ e. open_tells q n (Number 4294967295) within)
    go Leave = open_tells (leaves n q) n (Number 0) within

-- and after
pub open_question : (q : WaitQueue) (n : ℕ) (question : Question) (v : ℕ) → IsFree q n → IsSound q → has_open_question (after_question q n question v) n ≡ true
unfolding after_question
open_question q n question v free sound =
    let kept : Keeps n (asked q n question v) (settled (asked q n question v)) = Keeps-settled n (asked q n question v)
    (IsSound-asked q n question v free sound) in
    kept.waits (open_asked q n question v free sound)

pub open_step : (q : WaitQueue) (n : ℕ) (question : Question) (reply : Reply) → reply ≢ OutOfBounds → IsFree q n → IsSound q
    → has_open_question (queue_step q n (Ask question) reply) n ≡ true
open_step q n question OutOfBounds within free sound = absurd (within refl)
open_step q n question (Value v) within free sound = open_question q n question v free sound
open_step q n question Done within free sound = open_question q n question 0 free sound
open_step q n question Again within free sound = open_question q n question 0 free sound
open_step q n question Full within free sound = open_question q n question 0 free sound

-- a question within bounds is open after its entry
pub open_after_question : (xs : List Entry) (n : ℕ) (question : Question) (reply : Reply) → reply ≢ OutOfBounds
    → IsQueueLegal (xs ++ entry n (Ask question) reply ∷ [])
    → has_open_question (queue_after (xs ++ entry n (Ask question) reply ∷ [])) n ≡ true
open_after_question xs n question reply within legal =
    ap (λ w. has_open_question w n) (queue_after-one xs n (Ask question) reply)
    ∙ open_step (queue_after xs) n question reply within (last_allowed xs n (Ask question) reply legal)
    (IsSound-after xs (IsQueueLegal-prefix xs (entry n (Ask question) reply ∷ []) legal))

-- at an answer taken

set_none : (n : ℕ) (due : List (Option Answer)) → get_or (set due n None) n None ≡ None
set_none n due =
    elim (cases_lt n (length due)) [
      | inl within ↦ get_or-set_same due n None None within
      | inr past ↦ get_or_past (set due n None) n None (omega (arith, length-set due n None))
    ]

-- who took its answer has no open question
pub quiet_answer : (q : WaitQueue) (n : ℕ) (a : Answer) → answer_due q n ≡ Some a → IsSound q → IsQuiet (after_answer q n) n
unfolding after_answer
quiet_answer q n a due sound = record { awake = awake_if_due q sound n a due; told = set_none n q.due }

-- and is alive if it was
pub alive_answer : (q : WaitQueue) (n m : ℕ) → is_alive (after_answer q n) m ≡ is_alive q m
unfolding after_answer
alive_answer q n m = refl

pub quiet_after_answer : (xs : List Entry) (n : ℕ) (a : Answer) (reply : Reply) → IsQueueLegal (xs ++ entry n (Told a) reply ∷ [])
    → IsQuiet (queue_after (xs ++ entry n (Told a) reply ∷ [])) n
quiet_after_answer xs n a reply legal =
    subst (λ w. IsQuiet w n) (sym (queue_after-one xs n (Told a) reply))
    (quiet_answer (queue_after xs) n a (last_allowed xs n (Told a) reply legal) (IsSound-after xs (IsQueueLegal-prefix xs (entry n (Told a) reply ∷ []) legal)))

-- so it is free, unless it left
pub free_after_answer : (xs : List Entry) (n : ℕ) (a : Answer) (reply : Reply)
    → IsQueueLegal (xs ++ entry n (Told a) reply ∷ []) → is_alive (queue_after xs) n ≡ true
    → IsFree (queue_after (xs ++ entry n (Told a) reply ∷ [])) n
free_after_answer xs n a reply legal alive =
    let quiet : IsQuiet (queue_after (xs ++ entry n (Told a) reply ∷ [])) n = quiet_after_answer xs n a reply legal in
    record {
      alive = ap (λ w. is_alive w n) (queue_after-one xs n (Told a) reply) ∙ (alive_answer (queue_after xs) n n ∙ alive);
      awake = quiet.awake;
      told = quiet.told;
    }
