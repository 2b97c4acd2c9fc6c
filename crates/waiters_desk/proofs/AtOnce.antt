-- Which answer is due at once to who asks, and how the thread stands then.
use Rattle.std.proofs.Common.{◌≡◌, ◌≢◌, ℕ, ◌<◌, ◌==◌, true, false, not, ◌||◌, cond, List, [], ◌∷◌, length, Some, None}
use Rattle.std.proofs.Common.{refl, ◌∙◌, ap, inl, inr, arith, get_or-set_same}
use Rattle.std.specs.Prelude.{nat_lt, is_some}
use Rattle.std.specs.List.{filter, list_any}
use Rattle.std.proofs.lemmas.Bool.{both_ways, or_left, or_from, cond_both, eqb-true, eqb-false, not-true, not-false}
use Rattle.std.proofs.lemmas.List.Folds.{list_any-append}
use Rattle.types.specs.declared.event.Question.{Question}
use Rattle.types.specs.declared.event.Question.TheVariants.{Wait, Notify, Spawn, Leave}
use Rattle.types.specs.declared.event.Answer.{Answer}
use Rattle.types.specs.declared.event.Answer.TheVariants.{Number}
use Rattle.shared_memory.specs.declared.sleeper.Sleeper.{Sleeper}
use Rattle.shared_memory.specs.WaitQueue.{WaitQueue, is_alive, is_asleep, answer_due, next_id, tells, wakes, sleeps, starts, woken_at}
use Rattle.shared_memory.specs.WaitQueue.{ends_at_once, ended, end_answer, is_stuck, settled, asked, after_question, after_answer, IsFree, has_open_question}
use Rattle.shared_memory.specs.Sound.{IsSound}
use Rattle.shared_memory.proofs.Sleepers.{length-due_after}
use Rattle.shared_memory.proofs.Soundness.{IsSound-asked, IsSound-question}
use Rattle.shared_memory.proofs.Others.{IsQuiet, Keeps, Keeps-settled}
use Rattle.shared_memory.proofs.Standing.{quiet_not_open}
use Rattle.shared_memory.proofs.Turns.{quiet_answer, alive_answer, open_question}
use Rattle.waiters.specs.Queue.{falls_asleep}
use Rattle.waiters_desk.specs.Calls.{IsWaiting, IsGone, IsAtOnce, step_of}

-- the number is as the question has it
abbrev pub HasNumber : Question → ℕ → ℕ → Type 0
HasNumber (Wait addr width expected timeout) v k = IsAtOnce expected timeout v k
HasNumber (Notify addr count) v k = Unit {0}
HasNumber (Spawn arg) v k = Unit {0}
HasNumber Leave v k = k ≡ 0

-- an answer that is a number is due
pub record TellsNumber (q : WaitQueue) (n : ℕ) (question : Question) (v : ℕ) : Type 0 where
  pub number : ℕ
  pub due : answer_due q n ≡ Some (Number number)
  pub fits : HasNumber question v number

-- who isn't asleep is answered at once
module _ (q : WaitQueue) (n : ℕ) (free : IsFree q n) (sound : IsSound q) where
  within : n < length q.due
  within = let known : n < next_id q = sound.named n free.alive in omega (arith, sound.few)

  wait_asked : (addr width expected : ℕ) (timeout : _) (v : ℕ) → falls_asleep (Wait addr width expected timeout) v ≡ false
      → TellsNumber (asked q n (Wait addr width expected timeout) v) n (Wait addr width expected timeout) v
  wait_asked addr width expected timeout v awake =
      let s : Sleeper = record { thread = n; addr = addr; timeout = timeout } in
      cond_both (not (v == expected)) (tells n (Number 1) q) (cond (ends_at_once timeout) (tells n (Number 2) q) (sleeps s q))
      (λ w. TellsNumber w n (Wait addr width expected timeout) v)
      (λ differs. record {
        number = 1;
        due = get_or-set_same q.due n (Some (Number 1)) None within;
        fits = inl ((λ same. eqb-false v expected (not-true (v == expected) differs) same), refl);
      })
      (λ same. cond_both (ends_at_once timeout) (tells n (Number 2) q) (sleeps s q) (λ w. TellsNumber w n (Wait addr width expected timeout) v)
      (λ ends. record {
        number = 2;
        due = get_or-set_same q.due n (Some (Number 2)) None within;
        fits = inr (eqb-true v expected (not-false (v == expected) same), ends, refl);
      })
      (λ lasts. absurd (both_ways (falls_asleep (Wait addr width expected timeout) v) awake (asleep same lasts))))
    where
      asleep : not (v == expected) ≡ false → ends_at_once timeout ≡ false → falls_asleep (Wait addr width expected timeout) v ≡ true
      asleep same lasts = rw (not-false (v == expected) same, lasts) refl

  number_asked : (question : Question) (v : ℕ) → falls_asleep question v ≡ false → TellsNumber (asked q n question v) n question v
  number_asked (Wait addr width expected timeout) v awake = wait_asked addr width expected timeout v awake
  number_asked (Notify addr count) v awake =
      let woken : List Sleeper = woken_at addr count q.sleepers in
      let inside : n < length (wakes woken (Number 0) q).due = omega (arith, length-due_after woken (Number 0) q.due, within) in record {
        number = length woken;
        due = get_or-set_same (wakes woken (Number 0) q).due n (Some (Number (length woken))) None inside;
        fits = tt;
      }
  number_asked (Spawn arg) v awake =
      cond_both (nat_lt (next_id q) (length q.due)) (tells n (Number (next_id q)) (starts arg q))
      (tells n (Number 4294967295) q) (λ w. TellsNumber w n (Spawn arg) v)
      (λ room. record { number = next_id q; due = get_or-set_same q.due n (Some (Number (next_id q))) None within; fits = tt })
      (λ none. record { number = 4294967295; due = get_or-set_same q.due n (Some (Number 4294967295)) None within; fits = tt })
  number_asked Leave v awake = record { number = 0; due = get_or-set_same q.due n (Some (Number 0)) None within; fits = refl }

  -- and settling leaves it due
  number_settled : (question : Question) (v : ℕ) → TellsNumber (asked q n question v) n question v → TellsNumber (after_question q n question v) n question v
  unfolding after_question
  number_settled question v tells_it =
      let kept : Keeps n (asked q n question v) (settled (asked q n question v)) =
      Keeps-settled n (asked q n question v) (IsSound-asked q n question v free sound) in
      record { number = tells_it.number; due = kept.due (Number tells_it.number) tells_it.due; fits = tells_it.fits }

  pub number_due : (question : Question) (v : ℕ) → falls_asleep question v ≡ false → TellsNumber (step_of question (Some v) n q) n question v
  number_due (Wait addr width expected timeout) v awake =
      number_settled (Wait addr width expected timeout) v (number_asked (Wait addr width expected timeout) v awake)
  number_due (Notify addr count) v awake =
      let told = number_settled (Notify addr count) 0 (number_asked (Notify addr count) 0 refl) in record { number = told.number; due = told.due; fits = tt }
  number_due (Spawn arg) v awake =
      let told = number_settled (Spawn arg) 0 (number_asked (Spawn arg) 0 refl) in record { number = told.number; due = told.due; fits = tt }
  number_due Leave v awake =
      let told = number_settled Leave 0 (number_asked Leave 0 refl) in record { number = told.number; due = told.due; fits = told.fits }

  pub sound_step : (question : Question) (v : ℕ) → IsSound (step_of question (Some v) n q)
  sound_step (Wait addr width expected timeout) v = IsSound-question q n (Wait addr width expected timeout) v free sound
  sound_step (Notify addr count) v = IsSound-question q n (Notify addr count) 0 free sound
  sound_step (Spawn arg) v = IsSound-question q n (Spawn arg) 0 free sound
  sound_step Leave v = IsSound-question q n Leave 0 free sound

-- who is alive

settled_alive : (q : WaitQueue) → WaitQueue.alive (settled q) ≡ q.alive
settled_alive q = cond_both (is_stuck q) (wakes (ended q.sleepers) (end_answer q.sleepers) q) q (λ (w : WaitQueue). w.alive ≡ q.alive) (λ e. refl) (λ e. refl)

same_alive : (q r : WaitQueue) (n : ℕ) → q.alive ≡ r.alive → is_alive q n ≡ is_alive r n
same_alive q r n e = ap (λ ns. list_any (λ m. m == n) ns) e

-- the questions that no thread ends with
abbrev pub StaysAt : Question → Type 0
StaysAt (Wait addr width expected timeout) = Unit {0}
StaysAt (Notify addr count) = Unit {0}
StaysAt (Spawn arg) = Unit {0}
StaysAt Leave = ⊥

alive_asked : (q : WaitQueue) (n : ℕ) (question : Question) (v : ℕ) → StaysAt question → is_alive q n ≡ true → is_alive (asked q n question v) n ≡ true
alive_asked q n (Wait addr width expected timeout) v stays alive =
    let s : Sleeper = record { thread = n; addr = addr; timeout = timeout } in
    cond_both (not (v == expected)) (tells n (Number 1) q)
    (cond (ends_at_once timeout) (tells n (Number 2) q) (sleeps s q)) (λ w. is_alive w n ≡ true) (λ e. alive)
    (λ e. cond_both (ends_at_once timeout) (tells n (Number 2) q) (sleeps s q) (λ w. is_alive w n ≡ true) (λ d. alive) (λ d. alive))
alive_asked q n (Notify addr count) v stays alive = alive
alive_asked q n (Spawn arg) v stays alive =
    cond_both (nat_lt (next_id q) (length q.due)) (tells n (Number (next_id q)) (starts arg q)) (tells n (Number 4294967295) q) (λ w. is_alive w n ≡ true)
    (λ e. list_any-append (λ m. m == n) q.alive (next_id q ∷ []) ∙ or_left (is_alive q n) ((next_id q == n) || false) alive) (λ e. alive)
alive_asked q n Leave v stays alive = absurd stays

alive_after : (q : WaitQueue) (n : ℕ) (question : Question) (v : ℕ) → StaysAt question → is_alive q n ≡ true → is_alive (after_question q n question v) n ≡ true
unfolding after_question
alive_after q n question v stays alive =
    same_alive (settled (asked q n question v)) (asked q n question v) n (settled_alive (asked q n question v)) ∙ alive_asked q n question v stays alive

-- who asks stays alive, unless it leaves
pub alive_step : (q : WaitQueue) (n : ℕ) (question : Question) (v : ℕ) → StaysAt question → is_alive q n ≡ true
    → is_alive (step_of question (Some v) n q) n ≡ true
alive_step q n (Wait addr width expected timeout) v stays alive = alive_after q n (Wait addr width expected timeout) v stays alive
alive_step q n (Notify addr count) v stays alive = alive_after q n (Notify addr count) 0 stays alive
alive_step q n (Spawn arg) v stays alive = alive_after q n (Spawn arg) 0 stays alive
alive_step q n Leave v stays alive = absurd stays

none_but : (n : ℕ) (ns : List ℕ) → list_any (λ m. m == n) (filter (λ m. not (m == n)) ns) ≡ false
none_but n [] = refl
none_but n (k ∷ ns) =
    cond_both (not (k == n)) (k ∷ filter (λ m. not (m == n)) ns) (filter (λ m. not (m == n)) ns) (λ w. list_any (λ m. m == n) w ≡ false)
    (λ e. or_from (k == n) (list_any (λ m. m == n) (filter (λ m. not (m == n)) ns)) (not-true (k == n) e) (none_but n ns))
    (λ e. none_but n ns)

-- who leaves isn't alive
pub left_step : (q : WaitQueue) (n v : ℕ) → is_alive (step_of Leave (Some v) n q) n ≡ false
unfolding after_question
left_step q n v =
    same_alive (settled (asked q n Leave 0)) (asked q n Leave 0) n (settled_alive (asked q n Leave 0)) ∙ none_but n q.alive

-- at the answer

pub free_heard : (q : WaitQueue) (n : ℕ) (a : Answer) → answer_due q n ≡ Some a → IsSound q → is_alive q n ≡ true → IsFree (after_answer q n) n
free_heard q n a due sound alive =
    let quiet : IsQuiet (after_answer q n) n = quiet_answer q n a due sound in
    record { alive = alive_answer q n n ∙ alive; awake = quiet.awake; told = quiet.told }

pub gone_heard : (q : WaitQueue) (n : ℕ) (a : Answer) → answer_due q n ≡ Some a → IsSound q → is_alive q n ≡ false → IsGone (after_answer q n) n
gone_heard q n a due sound left = record { left = alive_answer q n n ∙ left; told = quiet_not_open (after_answer q n) n (quiet_answer q n a due sound) }

-- who falls asleep waits, also where settling made its answer due
pub waiting_step : (q : WaitQueue) (n addr width expected : ℕ) (timeout : _) (v : ℕ) → IsFree q n → IsSound q
    → IsWaiting (step_of (Wait addr width expected timeout) (Some v) n q) n
waiting_step q n addr width expected timeout v free sound = record {
  alive = alive_step q n (Wait addr width expected timeout) v tt free.alive;
  asked = open_question q n (Wait addr width expected timeout) v free sound;
}

-- an answer is due to who waits and isn't asleep
pub due_waiting : (q : WaitQueue) (n : ℕ) → IsWaiting q n → is_asleep q n ≡ false → answer_due q n ≢ None
due_waiting q n waiting awake none =
    let closed : has_open_question q n ≡ false = or_from (is_asleep q n) (is_some (answer_due q n)) awake (ap is_some none) in
    both_ways (has_open_question q n) closed waiting.asked
