-- Each event that no limit holds back lowers what may still come past the limit.
use Rattle.std.proofs.Common.{cond, ◌≡◌, ◌≢◌, ℕ, zero, suc, ◌+◌, ◌<◌, ◌≤◌, Bool, true, false, true≢false, not, ◌||◌, List, []}
use Rattle.std.proofs.Common.{◌∷◌, ◌++◌, length, set, refl, sym, ap, ◌∙◌, subst, arith, length-append, eqb, eq-eqb, eqb-true, ltb, ltb-true, ltb-false}
use Rattle.std.specs.Prelude.{Option, Some, None, is_some}
use Rattle.std.specs.List.{filter, list_any}
use Rattle.std.specs.Option.{option_map_or}
use Rattle.std.proofs.Math.Bool.{or-true}
use Rattle.std.proofs.lemmas.Bool.{eqb-false}
use Rattle.std.proofs.lemmas.List.{get_or-set_other, get_or_past}
use Rattle.types.specs.declared.event.Entry.{Entry}
use Rattle.types.specs.declared.event.Event.{Event}
use Rattle.types.specs.declared.event.Event.TheVariants.{Size, Grow, Load, Store, Rmw, Cmpxchg, Ask, Told}
use Rattle.types.specs.declared.event.Question.TheVariants.{Wait, Notify, Spawn, Leave}
use Rattle.types.specs.declared.event.Answer.{Answer}
use Rattle.types.specs.declared.event.Answer.TheVariants.{Number}
use Rattle.types.specs.declared.event.Reply.{Reply}
use Rattle.types.specs.declared.limits.TheConstants.{MOST_THREADS, PAST_LIMIT}
use Rattle.shared_memory.specs.declared.sleeper.Sleeper.{Sleeper}
use Rattle.shared_memory.specs.Events.{is_of_queue, is_exempt}
use Rattle.shared_memory.specs.Memory.{Memory, reply_of}
use Rattle.shared_memory.specs.WaitQueue.{WaitQueue, first_queue, is_among, is_asleep, answer_due, tells, wakes, leaves, ends_before, earlier}
use Rattle.shared_memory.specs.WaitQueue.{has_timeout, first_to_end, is_stuck, ended, end_answer, settled}
use Rattle.shared_memory.specs.WaitQueue.{after_question, after_answer, IsFree, has_open_question}
use Rattle.shared_memory.specs.History.{entry, queue_step, queue_after}
use Rattle.shared_memory.specs.Legal.{IsQueueLegal, MayEnter}
use Rattle.shared_memory.specs.Sound.{IsSound}
use Rattle.shared_memory.proofs.Histories.{of_queue-quiet, of_queue-none, same_queue_legal, queue_after-entry, IsQueueLegal-entry}
use Rattle.shared_memory_on_table.specs.Callers.{one_if}
use Rattle.locked_recorder.specs.Room.{open_questions, still_due, HasSpare}
use Rattle.shared_memory.proofs.Soundness.{IsSound-after, few_spawned}
use Rattle.shared_memory.proofs.Few.{few_alive}
use Rattle.locked_recorder.proofs.Queue.{among_rest, due_other, length-rest, due_taken}

abbrev L : Type 0
L = List Entry

-- open questions

open_bound : (q : WaitQueue) (k : ℕ) → open_questions q k ≤ k
unfolding open_questions
open_bound q zero = omega arith
open_bound q (suc k) = let r = open_bound q k in let o = one_bound (has_open_question q k) in omega arith
  where
    one_bound : (b : Bool) → one_if b ≤ 1
    one_bound true = omega arith
    one_bound false = omega arith

abbrev IsFewer : WaitQueue → WaitQueue → ℕ → Type 0
IsFewer q r m = has_open_question r m ≡ true → has_open_question q m ≡ true

fewer_at : (a b : Bool) → (b ≡ true → a ≡ true) → one_if b ≤ one_if a
fewer_at a true h = let e : one_if a ≡ 1 = ap one_if (h refl) in omega arith
fewer_at a false h = omega arith

one_at_most : (b : Bool) → one_if b ≤ 1
one_at_most true = omega arith
one_at_most false = omega arith

open_fewer : (q r : WaitQueue) (k : ℕ) → ((m : ℕ) → IsFewer q r m) → open_questions r k ≤ open_questions q k
unfolding open_questions
open_fewer q r zero h = omega arith
open_fewer q r (suc k) h = let t = open_fewer q r k h in let o = fewer_at (has_open_question q k) (has_open_question r k) (h k) in omega arith

-- fewer but for one thread, below it and above
open_below : (q r : WaitQueue) (n j : ℕ) → ((m : ℕ) → m ≢ n → IsFewer q r m) → j ≤ n → open_questions r j ≤ open_questions q j
unfolding open_questions
open_below q r n zero h le = omega arith
open_below q r n (suc j) h le = let t = open_below q r n j h (omega arith) in
    let o = fewer_at (has_open_question q j) (has_open_question r j) (h j (λ e. omega arith)) in omega arith

open_but_one : (q r : WaitQueue) (n k : ℕ) → ((m : ℕ) → m ≢ n → IsFewer q r m) → open_questions r k ≤ open_questions q k + 1
unfolding open_questions
open_but_one q r n zero h = omega arith
open_but_one q r n (suc k) h = by_name (open_but_one q r n k h) (eqb k n) refl
  where
    by_name : open_questions r k ≤ open_questions q k + 1 → (b : Bool) → eqb k n ≡ b → open_questions r (suc k) ≤ open_questions q (suc k) + 1
    by_name t true e = let same = eqb-true k n e in let t = open_below q r n k h (omega arith) in let o = one_at_most (has_open_question r k) in omega arith
    by_name t false e = let o = fewer_at (has_open_question q k) (has_open_question r k) (h k (eqb-false k n e)) in omega arith

-- and one fewer where that thread's question is closed
open_one_less : (q r : WaitQueue) (n k : ℕ) → n < k → has_open_question q n ≡ true → has_open_question r n ≡ false
    → ((m : ℕ) → m ≢ n → IsFewer q r m) → open_questions r k + 1 ≤ open_questions q k
unfolding open_questions
open_one_less q r n zero lt was now h = absurd (omega arith)
open_one_less q r n (suc k) lt was now h = by_name (λ l. open_one_less q r n k l was now h) (eqb k n) refl
  where
    by_name : (n < k → open_questions r k + 1 ≤ open_questions q k) → (b : Bool) → eqb k n ≡ b → open_questions r (suc k) + 1 ≤ open_questions q (suc k)
    by_name f true e =
        let same = eqb-true k n e in
        let t = open_below q r n k h (omega arith) in
        let a : one_if (has_open_question q k) ≡ 1 = ap one_if (subst (λ (m : ℕ). has_open_question q m ≡ true) (sym same) was) in
        let b : one_if (has_open_question r k) ≡ 0 = ap one_if (subst (λ (m : ℕ). has_open_question r m ≡ false) (sym same) now) in
        omega arith
    by_name f false e =
        let other = eqb-false k n e in
        let t = f (omega arith) in
        let o = fewer_at (has_open_question q k) (has_open_question r k) (h k other) in
        omega arith

-- settling opens no question

either : (a b c d : Bool) → (c ≡ true → a ≡ true) → (d ≡ true → (a || b) ≡ true) → (c || d) ≡ true → (a || b) ≡ true
either a b true d f g h = ap (λ x. x || b) (f refl)
either a b false d f g h = g h

wakes_fewer : (woken : List Sleeper) (answer : Answer) (q : WaitQueue)
    → ((m : ℕ) → is_among m woken ≡ true → is_asleep q m ≡ true) → (m : ℕ) → IsFewer q (wakes woken answer q) m
wakes_fewer woken answer q among m h = by_test (is_among m woken) refl
  where
    by_test : (b : Bool) → is_among m woken ≡ b → has_open_question q m ≡ true
    by_test true t = ap (λ x. x || is_some (answer_due q m)) (among m t)
    by_test false t =
        either (is_asleep q m) (is_some (answer_due q m)) (is_asleep (wakes woken answer q) m) (is_some (answer_due (wakes woken answer q) m))
        (λ asleep. (among_rest m woken q.sleepers asleep).0)
        (λ told. ap (λ x. is_asleep q m || x) (sym (ap is_some (due_other m woken answer q.due t)) ∙ told) ∙ or-true (is_asleep q m))
        h

-- who ends first is asleep
first_among : (xs : List Sleeper) (s : Sleeper) → first_to_end xs ≡ Some s → is_among s.thread xs ≡ true
first_among [] s h = absurd (cc)
first_among (x ∷ xs) s h = by_test (first_among xs) (has_timeout x) h
  where
    itself : is_among x.thread (x ∷ xs) ≡ true
    itself = ap (λ b. b || is_among x.thread xs) (eq-eqb x.thread x.thread refl)

    behind : (t : Sleeper) → is_among t.thread xs ≡ true → is_among t.thread (x ∷ xs) ≡ true
    behind t k = ap (λ b. eqb x.thread t.thread || b) k ∙ or-true (eqb x.thread t.thread)

    inner : (s t : Sleeper) → Some s ≡ Some t → s ≡ t
    inner s t e = cc

    by_order : ((t : Sleeper) → first_to_end xs ≡ Some t → is_among t.thread xs ≡ true) → (t : Sleeper)
        → first_to_end xs ≡ Some t → (b : Bool) → cond b t x ≡ s → is_among s.thread (x ∷ xs) ≡ true
    by_order f t e true k = subst (λ (y : Sleeper). is_among y.thread (x ∷ xs) ≡ true) k (behind t (f t e))
    by_order f t e false k = subst (λ (y : Sleeper). is_among y.thread (x ∷ xs) ≡ true) k itself

    by_first : ((t : Sleeper) → first_to_end xs ≡ Some t → is_among t.thread xs ≡ true) → (o : Option Sleeper)
        → first_to_end xs ≡ o → earlier x o ≡ s → is_among s.thread (x ∷ xs) ≡ true
    by_first f None e k = subst (λ (y : Sleeper). is_among y.thread (x ∷ xs) ≡ true) k itself
    by_first f (Some t) e k = by_order f t e (ends_before t x) k

    by_test : ((t : Sleeper) → first_to_end xs ≡ Some t → is_among t.thread xs ≡ true) → (b : Bool)
        → cond b (Some (earlier x (first_to_end xs))) (first_to_end xs) ≡ Some s
        → is_among s.thread (x ∷ xs) ≡ true
    by_test f true k = by_first f (first_to_end xs) refl (inner (earlier x (first_to_end xs)) s k)
    by_test f false k = behind s (f s k)

ended_among : (xs : List Sleeper) (m : ℕ) → is_among m (ended xs) ≡ true → is_among m xs ≡ true
ended_among xs m h = by_first (first_to_end xs) refl h
  where
    by_name : (s : Sleeper) → is_among s.thread xs ≡ true → (b : Bool) → eqb s.thread m ≡ b → (b || false) ≡ true → is_among m xs ≡ true
    by_name s k true e t = subst (λ (n : ℕ). is_among n xs ≡ true) (eqb-true s.thread m e) k
    by_name s k false e t = absurd (true≢false (sym t))

    by_first : (o : Option Sleeper) → first_to_end xs ≡ o → is_among m (option_map_or (λ s. s ∷ []) o xs) ≡ true → is_among m xs ≡ true
    by_first None e k = k
    by_first (Some s) e k = by_name s (first_among xs s e) (eqb s.thread m) refl k

settled_fewer : (q : WaitQueue) (m : ℕ) → IsFewer q (settled q) m
settled_fewer q m = by_test (is_stuck q)
  where
    by_test : (b : Bool) → IsFewer q (cond b (wakes (ended q.sleepers) (end_answer q.sleepers) q) q) m
    by_test true = wakes_fewer (ended q.sleepers) (end_answer q.sleepers) q (ended_among q.sleepers) m
    by_test false = λ h. h

settled_alive : (q : WaitQueue) → (settled q).alive ≡ q.alive
settled_alive q = by_test (is_stuck q)
  where
    by_test : (b : Bool) → (cond b (wakes (ended q.sleepers) (end_answer q.sleepers) q) q).alive ≡ q.alive
    by_test true = refl
    by_test false = refl

tells_fewer : (n : ℕ) (answer : Option Answer) (q : WaitQueue) (m : ℕ) → m ≢ n → IsFewer q (record q { due = set q.due n answer }) m
tells_fewer n answer q m other h = ap (λ x. is_asleep q m || x) (sym (ap is_some (get_or-set_other q.due n m answer None other))) ∙ h

-- one thread fewer is alive
one_leaves : (n : ℕ) (alive : List ℕ) → list_any (λ m. eqb m n) alive ≡ true → length (filter (λ m. not (eqb m n)) alive) + 1 ≤ length alive
one_leaves n [] h = absurd (true≢false (sym h))
one_leaves n (x ∷ alive) h = by_name (one_leaves n alive) (eqb x n) refl h
  where
    by_name : (list_any (λ m. eqb m n) alive ≡ true → length (filter (λ m. not (eqb m n)) alive) + 1 ≤ length alive)
        → (b : Bool) → eqb x n ≡ b → (b || list_any (λ m. eqb m n) alive) ≡ true
        → length (cond (not b) (x ∷ filter (λ m. not (eqb m n)) alive) (filter (λ m. not (eqb m n)) alive)) + 1 ≤ suc (length alive)
    by_name f true e k = let r = length-rest (λ m. not (eqb m n)) alive in omega arith
    by_name f false e k = let r = f k in omega arith

-- the two events

leave_lowers : (q : WaitQueue) (n : ℕ) → IsFree q n → still_due (after_question q n Leave 0) + 1 ≤ still_due q
unfolding still_due after_question
leave_lowers q n free =
    let left = leaves n q in
    let told = tells n (Number 0) left in
    let a = ap (λ (xs : List ℕ). length xs) (settled_alive told) in
    let b = one_leaves n q.alive free.alive in
    let c = open_fewer told (settled told) MOST_THREADS (settled_fewer told) in
    let d = open_but_one left told n MOST_THREADS (tells_fewer n (Some (Number 0)) left) in
    let e = open_fewer q left MOST_THREADS (λ m h. h) in
    omega arith

told_lowers : (q : WaitQueue) (n : ℕ) (answer : Answer) → IsSound q → answer_due q n ≡ Some answer → still_due (after_answer q n) + 1 ≤ still_due q
unfolding still_due after_answer
told_lowers q n answer s due =
    let was : has_open_question q n ≡ true = ap (λ o. is_asleep q n || is_some o) due ∙ or-true (is_asleep q n) in
    let now : has_open_question (after_answer q n) n ≡ false = ap (λ x. x || is_some (answer_due (after_answer q n) n))
    (awake (is_asleep q n) refl) ∙ ap is_some (due_taken q n) in
    let r = open_one_less q (after_answer q n) n MOST_THREADS (inside (ltb n MOST_THREADS) refl) was now (tells_fewer n None q) in
    omega arith
  where
    bad : answer_due q n ≡ None → ⊥
    bad e = let b : Some answer ≡ None = sym due ∙ e in cc

    awake : (b : Bool) → is_asleep q n ≡ b → is_asleep q n ≡ false
    awake true t = absurd (bad (s.unanswered n t))
    awake false t = t

    inside : (b : Bool) → ltb n MOST_THREADS ≡ b → n < MOST_THREADS
    inside true t = ltb-true n MOST_THREADS t
    inside false t = absurd (bad (get_or_past q.due n None (let p = s.due_length in let l = ltb-false n MOST_THREADS t in omega arith)))

bound : (q : WaitQueue) → IsSound q → still_due q ≤ PAST_LIMIT
unfolding still_due
bound q s = let a = few_alive q s in let b = few_spawned q s in let c = open_bound q MOST_THREADS in omega arith

-- the log, with one entry more

legal_push : (log : L) (n : ℕ) (event : Event) (reply : Reply) → IsQueueLegal log
    → (is_of_queue event ≡ true → MayEnter n event log) → IsQueueLegal (log ++ entry n event reply ∷ [])
legal_push log n event reply legal may = by_test (is_of_queue event) refl
  where
    by_test : (b : Bool) → is_of_queue event ≡ b → IsQueueLegal (log ++ entry n event reply ∷ [])
    by_test true t = IsQueueLegal-entry log n event reply t legal (may t)
    by_test false t = same_queue_legal (log ++ entry n event reply ∷ []) log
        (of_queue-quiet log (entry n event reply ∷ []) (of_queue-none (entry n event reply) t)) legal

lowers : (m : Memory) (log : L) (n : ℕ) (event : Event) (reply : Reply) → reply ≡ reply_of m event → IsQueueLegal log
    → (is_of_queue event ≡ true → MayEnter n event log) → is_exempt event ≡ true
    → still_due (queue_after (log ++ entry n event reply ∷ [])) + 1 ≤ still_due (queue_after log)
unfolding MayEnter
lowers m log n (Ask Leave) reply is legal may exempt =
    let e = queue_after-entry log n (Ask Leave) reply refl ∙ ap (queue_step (queue_after log) n (Ask Leave)) is in
    let r = leave_lowers (queue_after log) n (may refl) in
    let k = ap still_due e in omega arith
lowers m log n (Told answer) reply is legal may exempt =
    let e = queue_after-entry log n (Told answer) reply refl in
    let r = told_lowers (queue_after log) n answer (IsSound-after log legal) (may refl) in
    let k = ap still_due e in omega arith
lowers m log n Size reply is legal may exempt = absurd (true≢false (sym exempt))
lowers m log n (Grow more) reply is legal may exempt = absurd (true≢false (sym exempt))
lowers m log n (Load addr width reach) reply is legal may exempt = absurd (true≢false (sym exempt))
lowers m log n (Store addr width reach value) reply is legal may exempt = absurd (true≢false (sym exempt))
lowers m log n (Rmw op addr width value) reply is legal may exempt = absurd (true≢false (sym exempt))
lowers m log n (Cmpxchg addr width expected replacement) reply is legal may exempt = absurd (true≢false (sym exempt))
lowers m log n (Ask (Wait addr width expected timeout)) reply is legal may exempt = absurd (true≢false (sym exempt))
lowers m log n (Ask (Notify addr count)) reply is legal may exempt = absurd (true≢false (sym exempt))
lowers m log n (Ask (Spawn arg)) reply is legal may exempt = absurd (true≢false (sym exempt))

-- what an entry leaves of the log: it is legal for the queue, it had room, and it has spare room
pub record Pushed (limit : ℕ) (log after : L) : Type 0 where
  pub legal : IsQueueLegal after
  pub fits : length log < limit + PAST_LIMIT
  pub spare : HasSpare limit after

pub pushed : (limit : ℕ) (m : Memory) (log : L) (n : ℕ) (event : Event) (reply : Reply) → HasSpare limit log → IsQueueLegal log → reply ≡ reply_of m event
    → (is_of_queue event ≡ true → MayEnter n event log) → (is_exempt event ≡ false → length log < limit) → Pushed limit log (log ++ entry n event reply ∷ [])
pushed limit m log n event reply spare legal is may below = by_test (is_exempt event) refl
  where
    after : L
    after = log ++ entry n event reply ∷ []

    grown : length (log ++ entry n event reply ∷ []) ≡ length log + 1
    grown = length-append log (entry n event reply ∷ [])

    still : IsQueueLegal (log ++ entry n event reply ∷ [])
    still = legal_push log n event reply legal may

    by_test : (b : Bool) → is_exempt event ≡ b → Pushed limit log (log ++ entry n event reply ∷ [])
    by_test true t = let l = lowers m log n event reply is legal may t in let g = grown in record { legal = still; fits = omega arith; spare = omega arith }
    by_test false t = let l = below t in let b = bound (queue_after (log ++ entry n event reply ∷ []))
        (IsSound-after (log ++ entry n event reply ∷ []) still) in let g = grown in
        record { legal = still; fits = omega arith; spare = omega arith }

-- at first
pub first_spare : (limit : ℕ) → HasSpare limit []
unfolding still_due open_questions queue_after first_queue
first_spare limit = omega arith

pub first_legal : IsQueueLegal []
unfolding IsQueueLegal
first_legal = tt
