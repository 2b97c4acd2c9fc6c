-- Who is alive after a question.
use Rattle.std.proofs.Common.{◌≡◌, ℕ, ◌<◌, ◌==◌, Bool, true, false, not, cond, List, [], ◌∷◌, ◌++◌, length, refl, ◌∙◌, ap}
use Rattle.std.specs.Prelude.{ℤ, nat_lt}
use Rattle.std.specs.List.{list_any}
use Rattle.std.proofs.lemmas.Bool.{cond_both, cond-true, lt-ltb, or_left, or_right, eq-eqb}
use Rattle.std.proofs.lemmas.List.Folds.{list_any-append}
use Rattle.types.specs.declared.event.Event.{Event}
use Rattle.types.specs.declared.event.Event.TheVariants as events
use Rattle.types.specs.declared.event.Question.{Question}
use Rattle.types.specs.declared.event.Question.TheVariants.{Wait, Notify, Spawn, Leave}
use Rattle.types.specs.declared.event.Answer.TheVariants.{Number}
use Rattle.types.specs.declared.event.Reply.{Reply}
use Rattle.types.specs.declared.event.Reply.TheVariants as replies
use Rattle.shared_memory.specs.declared.sleeper.Sleeper.{Sleeper}
use Rattle.shared_memory.specs.Events.{is_exempt}
use Rattle.shared_memory.specs.WaitQueue.{WaitQueue, is_alive, next_id, tells, wakes, sleeps, starts, ends_at_once}
use Rattle.shared_memory.specs.WaitQueue.{ended, end_answer, is_stuck, settled, asked, after_question}
use Rattle.shared_memory.specs.History.{queue_step}

settled_alive : (q : WaitQueue) → (settled q).alive ≡ q.alive
settled_alive q = cond_both (is_stuck q) (wakes (ended q.sleepers) (end_answer q.sleepers) q) q (λ w. w.alive ≡ q.alive) (λ e. refl) (λ e. refl)

wait_alive : (q : WaitQueue) (n addr width expected : ℕ) (timeout : ℤ) (v : ℕ) → (asked q n (Wait addr width expected timeout) v).alive ≡ q.alive
wait_alive q n addr width expected timeout v =
    let s : Sleeper = record { thread = n; addr = addr; timeout = timeout } in
    cond_both (not (v == expected)) (tells n (Number 1) q)
    (cond (ends_at_once timeout) (tells n (Number 2) q) (sleeps s q)) (λ w. w.alive ≡ q.alive) (λ e. refl)
    (λ e. cond_both (ends_at_once timeout) (tells n (Number 2) q) (sleeps s q) (λ w. w.alive ≡ q.alive) (λ d. refl) (λ d. refl))

spawn_alive : (q : WaitQueue) (n arg v : ℕ) → (asked q n (Spawn arg) v).alive ≡ cond (nat_lt (next_id q) (length q.due)) (q.alive ++ next_id q ∷ []) q.alive
spawn_alive q n arg v = go (nat_lt (next_id q) (length q.due))
  where
    go : (b : Bool) → WaitQueue.alive (cond b (tells n (Number (next_id q)) (starts arg q))
        (tells n (Number 4294967295) q)) ≡ cond b (q.alive ++ next_id q ∷ []) q.alive
    go true = refl
    go false = refl

alive_in : ℕ → List ℕ → Bool
alive_in m alive = list_any (λ k. k == m) alive

more_alive : (m k : ℕ) (alive : List ℕ) → list_any (λ k. k == m) alive ≡ true → list_any (λ j. j == m) (alive ++ k ∷ []) ≡ true
more_alive m k alive h = list_any-append (λ j. j == m) alive (k ∷ []) ∙ or_left (list_any (λ j. j == m) alive) (list_any (λ j. j == m) (k ∷ [])) h

spawn_keeps : (m : ℕ) (q : WaitQueue) (b : Bool) → is_alive q m ≡ true → list_any (λ k. k == m) (cond b (q.alive ++ next_id q ∷ []) q.alive) ≡ true
spawn_keeps m q true h = more_alive m (next_id q) q.alive h
spawn_keeps m q false h = h

-- who asks anything but a leave stays alive
pub question_alive : (q : WaitQueue) (n : ℕ) (question : Question) (v : ℕ) → is_exempt (events.Ask question) ≡ false
    → is_alive q n ≡ true → is_alive (after_question q n question v) n ≡ true
unfolding after_question
question_alive q n (Wait addr width expected timeout) v kind h =
    ap (λ a. list_any (λ k. k == n) a) (settled_alive (asked q n (Wait addr width expected timeout) v) ∙ wait_alive q n addr width expected timeout v) ∙ h
question_alive q n (Notify addr count) v kind h = ap (λ a. list_any (λ k. k == n) a) (settled_alive (asked q n (Notify addr count) v)) ∙ h
question_alive q n (Spawn arg) v kind h =
    ap (λ a. list_any (λ k. k == n) a) (settled_alive (asked q n (Spawn arg) v) ∙ spawn_alive q n arg v) ∙ spawn_keeps n q (nat_lt (next_id q) (length q.due)) h
question_alive q n Leave v kind h = absurd (cc kind)

pub step_alive : (q : WaitQueue) (n : ℕ) (event : Event) (reply : Reply) → is_exempt event ≡ false
    → is_alive q n ≡ true → is_alive (queue_step q n event reply) n ≡ true
step_alive q n (events.Ask question) (replies.Value v) kind h = question_alive q n question v kind h
step_alive q n (events.Ask question) replies.Done kind h = question_alive q n question 0 kind h
step_alive q n (events.Ask question) replies.OutOfBounds kind h = h
step_alive q n (events.Ask question) replies.Again kind h = question_alive q n question 0 kind h
step_alive q n (events.Ask question) replies.Full kind h = question_alive q n question 0 kind h
step_alive q n (events.Told a) reply kind h = absurd (cc kind)
step_alive q n event reply kind h = h

-- and whom it starts is alive
pub spawned_alive : (q : WaitQueue) (n arg v : ℕ) → next_id q < length q.due → is_alive (after_question q n (Spawn arg) v) (next_id q) ≡ true
unfolding after_question
spawned_alive q n arg v room =
    ap (λ a. list_any (λ k. k == next_id q) a)
    (settled_alive (asked q n (Spawn arg) v)
    ∙ (spawn_alive q n arg v ∙ cond-true (nat_lt (next_id q) (length q.due))
    (q.alive ++ next_id q ∷ []) q.alive (lt-ltb (next_id q) (length q.due) room)))
    ∙ (list_any-append (λ j. j == next_id q) q.alive (next_id q ∷ [])
    ∙ or_right (list_any (λ j. j == next_id q) q.alive) (list_any (λ j. j == next_id q) (next_id q ∷ []))
    (or_left (next_id q == next_id q) false (eq-eqb (next_id q) (next_id q) refl)))
