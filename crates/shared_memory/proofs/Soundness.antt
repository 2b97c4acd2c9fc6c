-- After each history that is legal for it the wait queue is sound.
use Rattle.std.proofs.Common.{◌≡◌, ◌≢◌, ℕ, ◌+◌, ◌<◌, ◌≤◌, ◌==◌, true, false, not, ◌||◌, cond, List, [], ◌∷◌, ◌++◌}
use Rattle.std.proofs.Common.{length, Option, Some, None, refl, sym, ◌∙◌, subst, ◌⊎◌, inl, inr, arith, get_or, replicate, get_or-set_other, length-set}
use Rattle.std.specs.Prelude.{nat_lt}
use Rattle.std.specs.List.{filter, list_any}
use Rattle.std.proofs.lemmas.Bool.{both_ways, or_left, or_right, or_cases, eqb-true, cond_both, cases_Bool, cases_eq}
use Rattle.std.proofs.lemmas.Bool.{cases_lt, not-false, ltb-true, false_from_ne_true}
use Rattle.std.proofs.lemmas.List.{length-replicate, length-append, get_or-replicate, get_or_past}
use Rattle.std.proofs.lemmas.List.Folds.{list_any-append}
use Rattle.types.specs.declared.event.Entry.{Entry}
use Rattle.types.specs.declared.event.Event.{Event}
use Rattle.types.specs.declared.event.Event.TheVariants.{Ask, Told}
use Rattle.types.specs.declared.event.Question.{Question}
use Rattle.types.specs.declared.event.Question.TheVariants.{Wait, Notify, Spawn, Leave}
use Rattle.types.specs.declared.event.Answer.{Answer}
use Rattle.types.specs.declared.event.Answer.TheVariants.{Number}
use Rattle.types.specs.declared.event.Reply.{Reply}
use Rattle.types.specs.declared.event.Reply.TheVariants.{Value, Done, OutOfBounds, Again, Full}
use Rattle.types.specs.declared.limits.TheConstants.{MOST_THREADS, MOST_SPAWNED}
use Rattle.shared_memory.specs.declared.sleeper.Sleeper.{Sleeper}
use Rattle.shared_memory.specs.WaitQueue.{WaitQueue, first_queue, is_alive, is_among, is_asleep, answer_due, next_id, tells, wakes, sleeps, starts}
use Rattle.shared_memory.specs.WaitQueue.{leaves, woken_at, ends_at_once, ended, end_answer, is_stuck, settled, asked, after_question, after_answer, IsFree}
use Rattle.shared_memory.specs.History.{of_queue, queue_step, queue_from, queue_after}
use Rattle.shared_memory.specs.Legal.{IsAllowed, IsQueueLegalFrom, IsQueueLegal}
use Rattle.shared_memory.specs.Sound.{AreDistinct, SleepOnce, IsSound}
use Rattle.shared_memory.proofs.Woken.{ended_sleeps, woken_sleeps}
use Rattle.shared_memory.proofs.Sleepers.{list_any-filter, list_any-filtered, others_than, AreDistinct-filter}
use Rattle.shared_memory.proofs.Sleepers.{AreDistinct-push, SleepOnce-filter, SleepOnce-push, length-due_after, due_after-other, others_than-woken}

-- whom an answer is due to doesn't sleep
pub awake_if_due : (q : WaitQueue) → IsSound q → (n : ℕ) (a : Answer) → answer_due q n ≡ Some a → is_asleep q n ≡ false
awake_if_due q sound n a due =
    false_from_ne_true (is_asleep q n) (λ is. let none : answer_due q n ≡ None = sound.unanswered n is in absurd (cc (none, due)))

-- there are at most 64 threads, numbered from 0
pub alive_below : (q : WaitQueue) → IsSound q → (n : ℕ) → is_alive q n ≡ true → n < MOST_THREADS
alive_below q sound n is = let known : n < next_id q = sound.named n is in omega (arith, sound.few, sound.due_length)

pub owed_below : (q : WaitQueue) → IsSound q → (n : ℕ) (a : Answer) → answer_due q n ≡ Some a → n < MOST_THREADS
owed_below q sound n a due = let known : n < next_id q = sound.owed n a due in omega (arith, sound.few, sound.due_length)

pub few_spawned : (q : WaitQueue) → IsSound q → length q.args ≤ MOST_SPAWNED
few_spawned q sound = omega (arith, sound.few, sound.due_length)

-- each sleeper has a place for its answer
pub has_place : (q : WaitQueue) → IsSound q → (n : ℕ) → is_asleep q n ≡ true → n < length q.due
has_place q sound n is = let known : n < next_id q = sound.named n (sound.living n is) in omega (arith, sound.few)

-- the changes

-- a thread that is told something isn't asleep
pub IsSound-tells : (q : WaitQueue) (n : ℕ) (a : Answer) → is_asleep q n ≡ false → n < next_id q → IsSound q → IsSound (tells n a q)
IsSound-tells q n a awake known sound = record {
  named = sound.named;
  distinct = sound.distinct;
  living = sound.living;
  once = sound.once;
  unanswered = λ m is. get_or-set_other q.due n m (Some a) None
      (λ e. both_ways (is_asleep q n) awake (subst (λ (k : ℕ). is_asleep q k ≡ true) e is)) ∙ sound.unanswered m is;
  owed = λ m b due. elim (cases_eq m n) [
    | inl e ↦ subst (λ (k : ℕ). k < next_id q)
        (sym e) known
    | inr apart ↦ sound.owed m b (sym (get_or-set_other q.due n m (Some a) None apart) ∙ due)
  ];
  due_length = subst (λ (k : ℕ). k ≤ MOST_THREADS) (sym (length-set q.due n (Some a))) sound.due_length;
  few = subst (λ (k : ℕ). length q.args < k) (sym (length-set q.due n (Some a))) sound.few;
}

pub IsSound-wakes : (q : WaitQueue) (woken : List Sleeper) (a : Answer)
    → ((m : ℕ) → is_among m woken ≡ true → is_asleep q m ≡ true) → IsSound q → IsSound (wakes woken a q)
IsSound-wakes q woken a slept sound = record {
  named = sound.named;
  distinct = sound.distinct;
  living = λ n is. sound.living n (before n is);
  once = SleepOnce-filter (λ (s : Sleeper). not (is_among s.thread woken)) q.sleepers sound.once;
  unanswered = λ n is. due_after-other n woken a q.due (left n is) ∙ sound.unanswered n (before n is);
  owed = λ m b due. elim (cases_Bool (is_among m woken)) [
    | inl among ↦ sound.named m (sound.living m (slept m among))
    | inr isnt ↦ sound.owed m b (sym (due_after-other m woken a q.due isnt) ∙ due)
  ];
  due_length = subst (λ (k : ℕ). k ≤ MOST_THREADS) (sym (length-due_after woken a q.due)) sound.due_length;
  few = subst (λ (k : ℕ). length q.args < k) (sym (length-due_after woken a q.due)) sound.few;
}
  where
    before : (n : ℕ) → is_among n (others_than woken q.sleepers) ≡ true → is_asleep q n ≡ true
    before n is = list_any-filtered (λ (s : Sleeper). not (is_among s.thread woken)) (λ (s : Sleeper). s.thread == n) q.sleepers is

    left : (n : ℕ) → is_among n (others_than woken q.sleepers) ≡ true → is_among n woken ≡ false
    left n is = false_from_ne_true (is_among n woken)
        (λ among. both_ways (is_among n (others_than woken q.sleepers)) (others_than-woken n woken q.sleepers among) is)

-- who falls asleep
pub asleep_cases : (q : WaitQueue) (s : Sleeper) (n : ℕ) → is_asleep (sleeps s q) n ≡ true → (is_asleep q n ≡ true) ⊎ (s.thread ≡ n)
asleep_cases q s n is =
    elim (or_cases (is_asleep q n) ((s.thread == n) || false) (sym (list_any-append (λ (t : Sleeper). t.thread == n) q.sleepers (s ∷ [])) ∙ is)) [
      | inl e ↦ inl e
      | inr e ↦ elim (or_cases (s.thread == n) false e) [ inl same ↦ inr (eqb-true s.thread n same) | inr bad ↦ absurd (cc bad) ]
    ]

pub IsSound-sleeps : (q : WaitQueue) (s : Sleeper) → IsFree q s.thread → IsSound q → IsSound (sleeps s q)
IsSound-sleeps q s free sound = record {
  named = sound.named;
  distinct = sound.distinct;
  living = λ n is. elim (asleep_cases q s n is) [ inl e ↦ sound.living n e | inr e ↦ subst (λ (k : ℕ). is_alive q k ≡ true) e free.alive ];
  once = SleepOnce-push q.sleepers s sound.once free.awake;
  unanswered = λ n is. elim (asleep_cases q s n is) [ inl e ↦ sound.unanswered n e | inr e ↦ subst (λ (k : ℕ). answer_due q k ≡ None) e free.told ];
  owed = sound.owed;
  due_length = sound.due_length;
  few = sound.few;
}

-- who comes alive
pub alive_cases : (q : WaitQueue) (arg n : ℕ) → is_alive (starts arg q) n ≡ true → (is_alive q n ≡ true) ⊎ (next_id q ≡ n)
alive_cases q arg n is =
    elim (or_cases (is_alive q n) ((next_id q == n) || false) (sym (list_any-append (λ m. m == n) q.alive (next_id q ∷ [])) ∙ is)) [
      | inl e ↦ inl e
      | inr e ↦ elim (or_cases (next_id q == n) false e) [ inl same ↦ inr (eqb-true (next_id q) n same) | inr bad ↦ absurd (cc bad) ]
    ]

pub IsSound-starts : (q : WaitQueue) (arg : ℕ) → next_id q < length q.due → IsSound q → IsSound (starts arg q)
IsSound-starts q arg room sound = record {
  named = λ n is. below n is;
  distinct = AreDistinct-push q.alive (next_id q) sound.distinct fresh;
  living = λ n is. list_any-append (λ m. m == n) q.alive (next_id q ∷ []) ∙ or_left (is_alive q n) ((next_id q == n) || false) (sound.living n is);
  once = sound.once;
  unanswered = sound.unanswered;
  owed = λ n a due. let known : n < next_id q = sound.owed n a due in omega (arith, longer);
  due_length = sound.due_length;
  few = omega (arith, longer);
}
  where
    longer : length (q.args ++ arg ∷ []) ≡ length q.args + 1
    longer = length-append q.args (arg ∷ [])

    below : (n : ℕ) → is_alive (starts arg q) n ≡ true → n < length (q.args ++ arg ∷ []) + 1
    below n is = elim (alive_cases q arg n is) [
      | inl e ↦
          (let known : n < next_id q = sound.named n e in omega (arith, longer))
      | inr e ↦ omega (arith, longer)
    ]

    fresh : is_alive q (next_id q) ≡ false
    fresh = false_from_ne_true (is_alive q (next_id q)) (λ is. let known : next_id q < next_id q = sound.named (next_id q) is in absurd (omega arith))

-- who stays alive where one leaves
pub alive_but : (n m : ℕ) (ns : List ℕ) → n ≢ m → list_any (λ k. k == m) ns ≡ true → list_any (λ k. k == m) (filter (λ k. not (k == n)) ns) ≡ true
alive_but n m [] apart is = is
alive_but n m (k ∷ ns) apart is =
    elim (or_cases (k == m) (list_any (λ j. j == m) ns) is) [
      | inl e ↦ cond_both (not (k == n)) (k ∷ filter (λ j. not (j == n)) ns) (filter (λ j. not (j == n)) ns) (λ w. list_any (λ j. j == m) w ≡ true)
          (λ keeps. or_left (k == m) (list_any (λ j. j == m) (filter (λ j. not (j == n)) ns)) e)
          (λ drops. absurd (apart (sym (eqb-true k n (not-false (k == n) drops)) ∙ eqb-true k m e)))
      | inr e ↦ (let rest : list_any (λ j. j == m) (filter (λ j. not (j == n)) ns) ≡ true = alive_but n m ns apart e in
          cond_both (not (k == n)) (k ∷ filter (λ j. not (j == n)) ns) (filter (λ j. not (j == n)) ns) (λ w. list_any (λ j. j == m) w ≡ true)
          (λ keeps. or_right (k == m) (list_any (λ j. j == m) (filter (λ j. not (j == n)) ns)) rest)
          (λ drops. rest))
    ]

pub IsSound-leaves : (q : WaitQueue) (n : ℕ) → is_asleep q n ≡ false → IsSound q → IsSound (leaves n q)
IsSound-leaves q n awake sound = record {
  named = λ m is. sound.named m (list_any-filtered (λ k. not (k == n)) (λ k. k == m) q.alive is);
  distinct = AreDistinct-filter (λ k. not (k == n)) q.alive sound.distinct;
  living = λ m is. alive_but n m q.alive (λ e. both_ways (is_asleep q n) awake (subst (λ (k : ℕ). is_asleep q k ≡ true) (sym e) is)) (sound.living m is);
  once = sound.once;
  unanswered = sound.unanswered;
  owed = sound.owed;
  due_length = sound.due_length;
  few = sound.few;
}

-- the steps

pub IsSound-settled : (q : WaitQueue) → IsSound q → IsSound (settled q)
IsSound-settled q sound =
    cond_both (is_stuck q) (wakes (ended q.sleepers) (end_answer q.sleepers) q) q (λ w. IsSound w)
    (λ e. IsSound-wakes q (ended q.sleepers) (end_answer q.sleepers) (λ m among. ended_sleeps m q.sleepers among) sound) (λ e. sound)

pub IsSound-asked : (q : WaitQueue) (n : ℕ) (question : Question) (v : ℕ) → IsFree q n → IsSound q → IsSound (asked q n question v)
IsSound-asked q n (Wait addr width expected timeout) v free sound =
    let s : Sleeper = record { thread = n; addr = addr; timeout = timeout } in
    let known : n < next_id q = sound.named n free.alive in
    cond_both (not (v == expected)) (tells n (Number 1) q) (cond (ends_at_once timeout) (tells n (Number 2) q) (sleeps s q)) (λ w. IsSound w)
    (λ e. IsSound-tells q n (Number 1) free.awake known sound)
    (λ e. cond_both (ends_at_once timeout) (tells n (Number 2) q) (sleeps s q) (λ w. IsSound w)
    (λ d. IsSound-tells q n (Number 2) free.awake known sound) (λ d. IsSound-sleeps q s free sound))
IsSound-asked q n (Notify addr count) v free sound =
    let woken : List Sleeper = woken_at addr count q.sleepers in
    IsSound-tells (wakes woken (Number 0) q) n (Number (length woken))
    (list_any-filter (λ (s : Sleeper). not (is_among s.thread woken)) (λ (s : Sleeper). s.thread == n) q.sleepers free.awake)
    (sound.named n free.alive)
    (IsSound-wakes q woken (Number 0) (λ m among. woken_sleeps m addr count q.sleepers among) sound)
IsSound-asked q n (Spawn arg) v free sound =
    let known : n < next_id q = sound.named n free.alive in
    let still : n < length (q.args ++ arg ∷ []) + 1 = omega (arith, length-append q.args (arg ∷ []), known) in
    cond_both (nat_lt (next_id q) (length q.due)) (tells n (Number (next_id q)) (starts arg q)) (tells n (Number 4294967295) q) (λ w. IsSound w)
    (λ e. IsSound-tells (starts arg q) n (Number (next_id q)) free.awake still (IsSound-starts q arg (ltb-true (next_id q) (length q.due) e) sound))
    (λ e. IsSound-tells q n (Number 4294967295) free.awake known sound)
IsSound-asked q n Leave v free sound =
    IsSound-tells (leaves n q) n (Number 0) free.awake (sound.named n free.alive) (IsSound-leaves q n free.awake sound)

pub IsSound-question : (q : WaitQueue) (n : ℕ) (question : Question) (v : ℕ) → IsFree q n → IsSound q → IsSound (after_question q n question v)
unfolding after_question
IsSound-question q n question v free sound = IsSound-settled (asked q n question v) (IsSound-asked q n question v free sound)

pub IsSound-answer : (q : WaitQueue) (n : ℕ) → is_asleep q n ≡ false → n < next_id q → IsSound q → IsSound (after_answer q n)
unfolding after_answer
IsSound-answer q n awake known sound = record {
  named = sound.named;
  distinct = sound.distinct;
  living = sound.living;
  once = sound.once;
  unanswered = λ m is. get_or-set_other q.due n m None None
      (λ e. both_ways (is_asleep q n) awake (subst (λ (k : ℕ). is_asleep q k ≡ true) e is)) ∙ sound.unanswered m is;
  owed = λ m b due. elim (cases_eq m n) [
    | inl e ↦ subst (λ (k : ℕ). k < next_id q)
        (sym e) known
    | inr apart ↦ sound.owed m b (sym (get_or-set_other q.due n m None None apart) ∙ due)
  ];
  due_length = subst (λ (k : ℕ). k ≤ MOST_THREADS) (sym (length-set q.due n None)) sound.due_length;
  few = subst (λ (k : ℕ). length q.args < k) (sym (length-set q.due n None)) sound.few;
}

IsSound-ask : (q : WaitQueue) (n : ℕ) (question : Question) (reply : Reply) → IsFree q n → IsSound q → IsSound (queue_step q n (Ask question) reply)
IsSound-ask q n question OutOfBounds free sound = sound
IsSound-ask q n question (Value v) free sound = IsSound-question q n question v free sound
IsSound-ask q n question Done free sound = IsSound-question q n question 0 free sound
IsSound-ask q n question Again free sound = IsSound-question q n question 0 free sound
IsSound-ask q n question Full free sound = IsSound-question q n question 0 free sound

-- an allowed entry keeps it
pub IsSound-step : (q : WaitQueue) (n : ℕ) (event : Event) (reply : Reply) → IsAllowed q n event → IsSound q → IsSound (queue_step q n event reply)
IsSound-step q n (Ask question) reply allowed sound = IsSound-ask q n question reply allowed sound
IsSound-step q n (Told answer) reply allowed sound = IsSound-answer q n (awake_if_due q sound n answer allowed) (sound.owed n answer allowed) sound
IsSound-step q n _ reply allowed sound = sound

-- the histories

pub IsSound-from : (q : WaitQueue) (xs : List Entry) → IsQueueLegalFrom q xs → IsSound q → IsSound (queue_from q xs)
IsSound-from q [] legal sound = sound
IsSound-from q (e ∷ xs) legal sound = IsSound-from (queue_step q e.thread e.event e.reply) xs legal.1 (IsSound-step q e.thread e.event e.reply legal.0 sound)

-- at first no answer is due
pub no_answers : (most n : ℕ) → get_or (replicate {A = Option Answer} most None) n None ≡ None
no_answers most n = elim (cases_lt n most) [
  | inl within ↦ get_or-replicate most n None None within
  | inr past ↦ get_or_past (replicate most None) n None (omega (arith, length-replicate {A = Option Answer} most None))
]

-- the first queue is sound for up to 64 threads
pub IsSound-opening : (most : ℕ) → 0 < most → most ≤ MOST_THREADS → IsSound (first_queue most)
unfolding first_queue
IsSound-opening most some bound = record {
  named = λ n is. below n is;
  distinct = (refl, tt);
  living = λ n is. absurd (cc is);
  once = tt;
  unanswered = λ n is. absurd (cc is);
  owed = λ n a due. absurd (cc (no_answers most n, due));
  due_length = subst (λ (k : ℕ). k ≤ MOST_THREADS) (sym (length-replicate {A = Option Answer} most None)) bound;
  few = subst (λ (k : ℕ). 0 < k) (sym (length-replicate {A = Option Answer} most None)) some;
}
  where
    below : (n : ℕ) → ((0 == n) || false) ≡ true → n < 1
    below n is = elim (or_cases (0 == n) false is) [ inl e ↦ (let same : 0 ≡ n = eqb-true 0 n e in omega arith) | inr bad ↦ absurd (cc bad) ]

pub IsSound-first : IsSound (first_queue MOST_THREADS)
IsSound-first = IsSound-opening MOST_THREADS (omega arith) (omega arith)

-- after each history that is legal for the wait queue
pub IsSound-after : (history : List Entry) → IsQueueLegal history → IsSound (queue_after history)
unfolding IsQueueLegal queue_after
IsSound-after history legal = IsSound-from (first_queue MOST_THREADS) (of_queue history) legal IsSound-first
