-- A thread that was started is alive until it leaves.
use Rattle.std.proofs.Common.{◌≡◌, ◌≢◌, ℕ, ◌+◌, ◌<◌, ◌==◌, ◌||◌, Bool, true, false, not, cond, List, [], ◌∷◌, ◌++◌}
use Rattle.std.proofs.Common.{length, refl, sym, ◌∙◌, ap, subst, ◌⊎◌, inl, inr, arith, length-append}
use Rattle.std.specs.Prelude.{ℤ, nat_lt}
use Rattle.std.specs.List.{filter, list_any}
use Rattle.std.proofs.lemmas.Bool.{cases_eq, cases_lt, cond_both, or_left, or_right, eq-eqb, lt-ltb, le-ltb}
use Rattle.std.proofs.lemmas.List.Folds.{list_any-append}
use Rattle.types.specs.declared.event.Event.{Event}
use Rattle.types.specs.declared.event.Event.TheVariants as events
use Rattle.types.specs.declared.event.Question.{Question}
use Rattle.types.specs.declared.event.Question.TheVariants.{Wait, Notify, Spawn, Leave}
use Rattle.types.specs.declared.event.Answer.TheVariants.{Number}
use Rattle.types.specs.declared.event.Reply.{Reply}
use Rattle.types.specs.declared.event.Reply.TheVariants as replies
use Rattle.types.specs.declared.event.Entry as entries
use Rattle.types.specs.declared.limits.TheConstants.{MOST_THREADS}
use Rattle.shared_memory.specs.declared.sleeper.Sleeper.{Sleeper}
use Rattle.shared_memory.specs.WaitQueue.{WaitQueue, first_queue, is_alive, next_id, tells, wakes, sleeps, starts}
use Rattle.shared_memory.specs.WaitQueue.{ends_at_once, ended, end_answer, is_stuck, settled, asked, after_question}
use Rattle.shared_memory.specs.WaitQueue.{after_answer}
use Rattle.shared_memory.specs.History.{queue_step, queue_from, queue_after}
use Rattle.shared_memory.proofs.Soundness.{alive_but}
use Rattle.schedule_runs.proofs.Places.{args_by, question_args}
use Rattle.schedule_runs.proofs.Linked.{queue_after-all}

-- who is alive after a question

settled_alive : (q : WaitQueue) → (settled q).alive ≡ q.alive
settled_alive q = cond_both (is_stuck q) (wakes (ended q.sleepers) (end_answer q.sleepers) q) q (λ w. w.alive ≡ q.alive) (λ e. refl) (λ e. refl)

wait_alive : (q : WaitQueue) (n addr width expected : ℕ) (timeout : ℤ) (v : ℕ) → (asked q n (Wait addr width expected timeout) v).alive ≡ q.alive
wait_alive q n addr width expected timeout v =
    let s : Sleeper = record { thread = n; addr = addr; timeout = timeout } in
    cond_both (not (v == expected)) (tells n (Number 1) q)
    (cond (ends_at_once timeout) (tells n (Number 2) q) (sleeps s q)) (λ w. w.alive ≡ q.alive) (λ e. refl)
    (λ e. cond_both (ends_at_once timeout) (tells n (Number 2) q) (sleeps s q) (λ w. w.alive ≡ q.alive) (λ d. refl) (λ d. refl))

abbrev alive_by : WaitQueue → ℕ → Question → List ℕ
alive_by q n (Spawn arg) = cond (nat_lt (next_id q) (length q.due)) (q.alive ++ next_id q ∷ []) q.alive
alive_by q n Leave = filter (λ m. not (m == n)) q.alive
alive_by q n question = q.alive

spawn_alive : (q : WaitQueue) (n arg v : ℕ) → (asked q n (Spawn arg) v).alive ≡ cond (nat_lt (next_id q) (length q.due)) (q.alive ++ next_id q ∷ []) q.alive
spawn_alive q n arg v = go (nat_lt (next_id q) (length q.due))
  where
    go : (b : Bool) → WaitQueue.alive (cond b (tells n (Number (next_id q)) (starts arg q))
        (tells n (Number 4294967295) q)) ≡ cond b (q.alive ++ next_id q ∷ []) q.alive
    go true = refl
    go false = refl

question_alive : (q : WaitQueue) (n : ℕ) (question : Question) (v : ℕ) → (after_question q n question v).alive ≡ alive_by q n question
unfolding after_question
question_alive q n (Wait addr width expected timeout) v =
    settled_alive (asked q n (Wait addr width expected timeout) v) ∙ wait_alive q n addr width expected timeout v
question_alive q n (Notify addr count) v = settled_alive (asked q n (Notify addr count) v)
question_alive q n (Spawn arg) v = settled_alive (asked q n (Spawn arg) v) ∙ spawn_alive q n arg v
question_alive q n Leave v = settled_alive (asked q n Leave v)

-- whoever has a number that was given out is alive
abbrev IsThere : ℕ → WaitQueue → Type 0
IsThere m q = m < next_id q → is_alive q m ≡ true

-- by the two lists of a queue
abbrev IsThereIn : ℕ → List ℕ → List ℕ → Type 0
IsThereIn m alive args = m < length args + 1 → list_any (λ k. k == m) alive ≡ true

there_spawn : (q : WaitQueue) (arg m : ℕ) → IsThere m q → IsThereIn m (q.alive ++ next_id q ∷ []) (q.args ++ arg ∷ [])
there_spawn q arg m there known =
    list_any-append (λ k. k == m) q.alive (next_id q ∷ [])
    ∙ elim (cases_lt m (next_id q)) [
      | inl before ↦ or_left (is_alive q m) ((next_id q == m) || false) (there before)
      | inr past ↦ (let is : next_id q ≡ m = omega (arith, known, past, length-append q.args (arg ∷ [])) in
          or_right (is_alive q m) ((next_id q == m) || false) (or_left (next_id q == m) false (eq-eqb (next_id q) m is)))
    ]

there_by : (q : WaitQueue) (n : ℕ) (question : Question) (m : ℕ) → (question ≡ Leave → n ≢ m) → IsThere m q
    → IsThereIn m (alive_by q n question) (args_by q question)
there_by q n (Wait addr width expected timeout) m apart there = there
there_by q n (Notify addr count) m apart there = there
there_by q n (Spawn arg) m apart there =
    elim (cases_lt (next_id q) (length q.due)) [
      | inl room ↦ subst (λ (b : Bool). IsThereIn m (cond b (q.alive ++ next_id q ∷ []) q.alive)
          (cond b (q.args ++ arg ∷ []) q.args)) (sym (lt-ltb (next_id q) (length q.due) room))
          (there_spawn q arg m there)
      | inr none ↦ subst (λ (b : Bool). IsThereIn m (cond b (q.alive ++ next_id q ∷ []) q.alive)
          (cond b (q.args ++ arg ∷ []) q.args)) (sym (le-ltb (next_id q) (length q.due) none)) there
    ]
there_by q n Leave m apart there = λ known. alive_but n m q.alive (apart refl) (there known)

there_question : (q : WaitQueue) (n : ℕ) (question : Question) (v m : ℕ) → (question ≡ Leave → n ≢ m) → IsThere m q → IsThere m (after_question q n question v)
there_question q n question v m apart there =
    subst (λ (alive : List ℕ). IsThereIn m alive (WaitQueue.args (after_question q n question v))) (sym (question_alive q n question v))
    (subst (λ (args : List ℕ). IsThereIn m (alive_by q n question) args) (sym (question_args q n question v)) (there_by q n question m apart there))

-- a thread's leave
pub record IsLeave (m : ℕ) (e : entries.Entry) : Type 0 where
  pub of_thread : e.thread ≡ m
  pub event : e.event ≡ events.Ask Leave

there_ask : (q : WaitQueue) (n : ℕ) (question : Question) (reply : Reply) (m : ℕ) → (question ≡ Leave → n ≢ m)
    → IsThere m q → IsThere m (queue_step q n (events.Ask question) reply)
there_ask q n question replies.OutOfBounds m apart there = there
there_ask q n question (replies.Value v) m apart there = there_question q n question v m apart there
there_ask q n question replies.Done m apart there = there_question q n question 0 m apart there
there_ask q n question replies.Again m apart there = there_question q n question 0 m apart there
there_ask q n question replies.Full m apart there = there_question q n question 0 m apart there

there_step : (q : WaitQueue) (n : ℕ) (event : Event) (reply : Reply) (m : ℕ) → (event ≡ events.Ask Leave → n ≢ m)
    → IsThere m q → IsThere m (queue_step q n event reply)
unfolding after_answer
there_step q n (events.Ask question) reply m apart there = there_ask q n question reply m (λ is. apart (ap events.Ask is)) there
there_step q n event reply m apart there = there

-- a thread's leave is among the entries
abbrev pub HasLeave : ℕ → List entries.Entry → Type 0
HasLeave m [] = ⊥
HasLeave m (e ∷ H) = IsLeave m e ⊎ HasLeave m H

is_ask_leave : (event : Event) → (event ≡ events.Ask Leave) ⊎ (event ≡ events.Ask Leave → ⊥)
is_ask_leave (events.Ask Leave) = inl refl
is_ask_leave event = inr (λ is. absurd (cc is))

-- by a leave of the thread, or none
leave_or_not : (m : ℕ) (e : entries.Entry) → IsLeave m e ⊎ (e.event ≡ events.Ask Leave → e.thread ≢ m)
leave_or_not m e =
    elim (is_ask_leave e.event) [
      | inl is ↦ elim (cases_eq e.thread m) [ inl same ↦ inl (record { of_thread = same; event = is }) | inr apart ↦ inr (λ e. apart) ]
      | inr isnt ↦ inr (λ is. absurd (isnt is))
    ]

alive_from : (q : WaitQueue) (H : List entries.Entry) (m : ℕ) → IsThere m q → IsThere m (queue_from q H) ⊎ HasLeave m H
alive_from q [] m there = inl there
alive_from q (e ∷ H) m there =
    elim (leave_or_not m e) [
      | inl is ↦ inr (inl is)
      | inr apart ↦ elim (alive_from (queue_step q e.thread e.event e.reply) H m (there_step q e.thread e.event e.reply m apart there)) [
        | inl is ↦ inl is
        | inr has ↦ inr (inr has)
      ]
    ]

there_first : (most m : ℕ) → IsThere m (first_queue most)
unfolding first_queue
there_first most m known = let is : 0 ≡ m = omega arith in or_left (0 == m) false (eq-eqb 0 m is)

pub alive_until_from : (most : ℕ) (H : List entries.Entry) (m : ℕ) → m < next_id (queue_from (first_queue most) H)
    → (is_alive (queue_from (first_queue most) H) m ≡ true) ⊎ HasLeave m H
alive_until_from most H m known =
    elim (alive_from (first_queue most) H m (there_first most m)) [ inl there ↦ inl (there known) | inr has ↦ inr has ]

pub alive_until : (H : List entries.Entry) (m : ℕ) → m < next_id (queue_after H) → (is_alive (queue_after H) m ≡ true) ⊎ HasLeave m H
alive_until H m known =
    elim (alive_from (first_queue MOST_THREADS) H m (there_first MOST_THREADS m)) [
      | inl there ↦ inl (subst (λ (q : WaitQueue). IsThere m q) (sym (queue_after-all H)) there known)
      | inr has ↦ inr has
    ]
