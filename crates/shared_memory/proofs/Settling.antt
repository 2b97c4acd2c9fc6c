-- Settling: whom it wakes, and that the wait queue is settled after each history that is legal for it.
use Rattle.std.proofs.Common.{◌≡◌, ℕ, ◌==◌, Bool, true, false, ◌&&◌, List, [], ◌∷◌, length, Option, Some, None, refl, sym, subst, inl, inr}
use Rattle.std.specs.Prelude.{nat_lt}
use Rattle.std.specs.List.{list_any, list_all}
use Rattle.std.specs.Option.{option_map_or}
use Rattle.std.proofs.lemmas.Bool.{both_ways, or_left, cond_both, or_cases, eqb-true, cond-false, and_parts, and_left, and_right, eq-eqb}
use Rattle.types.specs.declared.event.Entry.{Entry}
use Rattle.types.specs.declared.event.Event.{Event}
use Rattle.types.specs.declared.event.Event.TheVariants.{Ask, Told}
use Rattle.types.specs.declared.event.Question.{Question}
use Rattle.types.specs.declared.event.Reply.{Reply}
use Rattle.types.specs.declared.event.Reply.TheVariants.{Value, Done, OutOfBounds, Again, Full}
use Rattle.types.specs.declared.limits.TheConstants.{MOST_THREADS}
use Rattle.shared_memory.specs.declared.sleeper.Sleeper.{Sleeper}
use Rattle.shared_memory.specs.WaitQueue.{WaitQueue, first_queue, is_alive, is_among, is_asleep, wakes, first_to_end}
use Rattle.shared_memory.specs.WaitQueue.{ended, end_answer, is_stuck, settled, asked, after_question, after_answer}
use Rattle.shared_memory.specs.WaitQueue.{IsFree}
use Rattle.shared_memory.specs.History.{of_queue, queue_step, queue_from, queue_after}
use Rattle.shared_memory.specs.Legal.{IsAllowed, IsQueueLegalFrom, IsQueueLegal}
use Rattle.shared_memory.specs.Sound.{IsSound}
use Rattle.shared_memory.proofs.Sleepers.{others_than-woken}
use Rattle.shared_memory.proofs.Woken.{first_is_among}
use Rattle.shared_memory.proofs.Soundness.{IsSound-asked, IsSound-step, IsSound-first}

-- after settling

-- of some live thread that a test fails not all pass
pub all_fails : (test : ℕ → Bool) (n : ℕ) (ns : List ℕ) → list_any (λ m. m == n) ns ≡ true → test n ≡ false → list_all test ns ≡ false
all_fails test n [] is fails = absurd (cc is)
all_fails test n (m ∷ ns) is fails =
    elim (or_cases (m == n) (list_any (λ k. k == n) ns) is) [
      | inl e ↦ and_left (test m) (list_all test ns) (subst (λ (k : ℕ). test k ≡ false) (sym (eqb-true m n e)) fails)
      | inr e ↦ and_right (test m) (list_all test ns) (all_fails test n ns e fails)
    ]

-- where a live thread is awake, nothing is to settle
pub awake_unstuck : (q : WaitQueue) (n : ℕ) → is_alive q n ≡ true → is_asleep q n ≡ false → is_stuck q ≡ false
awake_unstuck q n alive awake =
    and_right (nat_lt 0 (length q.alive)) (list_all (λ m. is_asleep q m) q.alive) (all_fails (λ m. is_asleep q m) n q.alive alive awake)

-- where no live thread is awake, a first live thread sleeps
first_sleeps : (q : WaitQueue) (ns : List ℕ) → q.alive ≡ ns → is_stuck q ≡ true → (n : ℕ) × (is_alive q n ≡ true) × (is_asleep q n ≡ true)
first_sleeps q [] is stuck =
    let bad : is_stuck q ≡ false = rw is refl in absurd (both_ways (is_stuck q) bad stuck)
first_sleeps q (n ∷ ns) is stuck =
    let parts : (nat_lt 0 (length q.alive) ≡ true)
    × (list_all (λ m. is_asleep q m) q.alive ≡ true) = and_parts (nat_lt 0 (length q.alive))
    (list_all (λ m. is_asleep q m) q.alive) stuck in
    let each : (is_asleep q n && list_all (λ m. is_asleep q m) ns) ≡ true = subst (λ w. list_all (λ m. is_asleep q m) w ≡ true) is parts.1 in
    let among : list_any (λ m. m == n) (n ∷ ns) ≡ true = or_left (n == n) (list_any (λ m. m == n) ns) (eq-eqb n n refl) in
    (n, subst (λ w. list_any (λ m. m == n) w ≡ true) (sym is) among, (and_parts (is_asleep q n) (list_all (λ m. is_asleep q m) ns) each).0)

-- who is woken where all sleep: at least one live thread
woken_one : (q : WaitQueue) → IsSound q → is_stuck q ≡ true → (o : Option Sleeper) → first_to_end q.sleepers ≡ o
    → (n : ℕ) × (is_alive q n ≡ true) × (is_among n (option_map_or (λ s. s ∷ []) o q.sleepers) ≡ true)
woken_one q sound stuck None is = first_sleeps q q.alive refl stuck
woken_one q sound stuck (Some f) is =
    (f.thread, sound.living f.thread (first_is_among q.sleepers f is), or_left (f.thread == f.thread) false (eq-eqb f.thread f.thread refl))

settled_stuck : (q : WaitQueue) → IsSound q → is_stuck q ≡ true → is_stuck (wakes (ended q.sleepers) (end_answer q.sleepers) q) ≡ false
settled_stuck q sound stuck =
    let one : (n : ℕ) × (is_alive q n ≡ true) × (is_among n (ended q.sleepers) ≡ true) = woken_one q sound stuck (first_to_end q.sleepers) refl in
    awake_unstuck (wakes (ended q.sleepers) (end_answer q.sleepers) q) one.0 one.1 (others_than-woken one.0 (ended q.sleepers) q.sleepers one.2)

-- who is alive and asleep after settling isn't every live thread
pub settled_unstuck : (q : WaitQueue) → IsSound q → is_stuck (settled q) ≡ false
settled_unstuck q sound =
    cond_both (is_stuck q) (wakes (ended q.sleepers) (end_answer q.sleepers) q) q (λ w. is_stuck w ≡ false)
    (λ e. settled_stuck q sound e) (λ e. e)

-- a queue in which somebody is awake settles to itself
pub settled_same : (q : WaitQueue) → is_stuck q ≡ false → settled q ≡ q
settled_same q unstuck = cond-false (is_stuck q) (wakes (ended q.sleepers) (end_answer q.sleepers) q) q unstuck

-- the steps

unstuck_question : (q : WaitQueue) (n : ℕ) (question : Question) (v : ℕ) → IsFree q n → IsSound q → is_stuck (after_question q n question v) ≡ false
unfolding after_question
unstuck_question q n question v free sound = settled_unstuck (asked q n question v) (IsSound-asked q n question v free sound)

-- taking an answer leaves nothing to settle
pub unstuck_answer : (q : WaitQueue) (n : ℕ) → is_stuck q ≡ false → is_stuck (after_answer q n) ≡ false
unfolding after_answer
unstuck_answer q n unstuck = unstuck

unstuck_ask : (q : WaitQueue) (n : ℕ) (question : Question) (reply : Reply) → IsFree q n → IsSound q
    → is_stuck q ≡ false → is_stuck (queue_step q n (Ask question) reply) ≡ false
unstuck_ask q n question OutOfBounds free sound unstuck = unstuck
unstuck_ask q n question (Value v) free sound unstuck = unstuck_question q n question v free sound
unstuck_ask q n question Done free sound unstuck = unstuck_question q n question 0 free sound
unstuck_ask q n question Again free sound unstuck = unstuck_question q n question 0 free sound
unstuck_ask q n question Full free sound unstuck = unstuck_question q n question 0 free sound

pub unstuck_step : (q : WaitQueue) (n : ℕ) (event : Event) (reply : Reply) → IsAllowed q n event → IsSound q → is_stuck q ≡ false
    → is_stuck (queue_step q n event reply) ≡ false
unstuck_step q n (Ask question) reply allowed sound unstuck = unstuck_ask q n question reply allowed sound unstuck
unstuck_step q n (Told answer) reply allowed sound unstuck = unstuck_answer q n unstuck
unstuck_step q n _ reply allowed sound unstuck = unstuck

unstuck_from : (q : WaitQueue) (xs : List Entry) → IsQueueLegalFrom q xs → IsSound q → is_stuck q ≡ false → is_stuck (queue_from q xs) ≡ false
unstuck_from q [] legal sound unstuck = unstuck
unstuck_from q (e ∷ xs) legal sound unstuck =
    unstuck_from (queue_step q e.thread e.event e.reply) xs legal.1 (IsSound-step q e.thread e.event e.reply legal.0 sound)
    (unstuck_step q e.thread e.event e.reply legal.0 sound unstuck)

unstuck_first : (most : ℕ) → is_stuck (first_queue most) ≡ false
unfolding first_queue
unstuck_first most = refl

-- after a legal history some live thread is awake, or none is alive
pub unstuck_after : (history : List Entry) → IsQueueLegal history → is_stuck (queue_after history) ≡ false
unfolding IsQueueLegal queue_after
unstuck_after history legal = unstuck_from (first_queue MOST_THREADS) (of_queue history) legal IsSound-first (unstuck_first MOST_THREADS)

-- so settling after an answer taken would change nothing
pub settled_after : (history : List Entry) → IsQueueLegal history → settled (queue_after history) ≡ queue_after history
settled_after history legal = settled_same (queue_after history) (unstuck_after history legal)
