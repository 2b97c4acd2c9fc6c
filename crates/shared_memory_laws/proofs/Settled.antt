-- What settling tells a sleeper, and where: that its timeout ended, or that it sleeps for good.
use Rattle.std.proofs.Common.{◌≡◌, ℕ, ◌≤◌, ◌==◌, true, false, cond, List, [], ◌∷◌, ◌++◌, length, Option, Some, None, refl, sym, ◌∙◌, ap, subst, inl, inr, arith}
use Rattle.std.specs.Prelude.{nat_lt, is_some}
use Rattle.std.specs.List.{list_all, Contains}
use Rattle.std.specs.Option.{option_map_or}
use Rattle.std.proofs.lemmas.Bool.{both_ways, cond-true, cases_Bool, or_cases, and_parts, eqb-true, ltb-true, ltb-false, lt-ltb}
use Rattle.types.specs.declared.event.Entry.{Entry}
use Rattle.types.specs.declared.event.Event.{Event}
use Rattle.types.specs.declared.event.Event.TheVariants.{Ask, Told}
use Rattle.types.specs.declared.event.Answer.{Answer}
use Rattle.types.specs.declared.event.Answer.TheVariants.{Number, ForGood}
use Rattle.types.specs.declared.event.Question.{Question}
use Rattle.types.specs.declared.event.Reply.{Reply}
use Rattle.types.specs.declared.event.Reply.TheVariants.{Value, Done, OutOfBounds, Again, Full}
use Rattle.shared_memory.specs.declared.sleeper.Sleeper.{Sleeper}
use Rattle.shared_memory.specs.WaitQueue.{WaitQueue, is_alive, is_among, is_asleep, answer_due, wakes, amount, first_to_end}
use Rattle.shared_memory.specs.WaitQueue.{ended, end_answer, is_stuck, settled, asked, after_question, after_answer, IsFree}
use Rattle.shared_memory.specs.History.{queue_step, queue_after}
use Rattle.shared_memory.specs.Legal.{IsAllowed, IsQueueLegal}
use Rattle.shared_memory.specs.Sound.{IsSound, SleepOnce}
use Rattle.shared_memory.proofs.Histories.{IsQueueLegal-prefix}
use Rattle.shared_memory.proofs.Sleepers.{due_after-other, due_after-woken}
use Rattle.shared_memory.proofs.Soundness.{IsSound-after, IsSound-asked, IsSound-step, has_place}
use Rattle.shared_memory.proofs.Settling.{all_fails, settled_same}
use Rattle.shared_memory.proofs.Turns.{queue_after-one, last_allowed}
use Rattle.shared_memory_laws.specs.Laws.{unsettled, TimeoutEnds, AllSleepForGood}
use Rattle.shared_memory_laws.proofs.Timeouts.{IsIn, in_from_contains, in_among, one_sleeper, none_timed, IsFirst, first_is_first}

-- whoever sleeps and is answered 2 by settling is the one whose timeout ends first
first_told : (s : Sleeper) (sleepers : List Sleeper) (o : Option Sleeper) → first_to_end sleepers ≡ o → SleepOnce sleepers → IsIn s sleepers
    → is_among s.thread (option_map_or (λ t. t ∷ []) o sleepers) ≡ true → cond (is_some o) (Number 2) ForGood ≡ Number 2 → IsFirst s sleepers
first_told s sleepers None is once h among two = absurd (cc two)
first_told s sleepers (Some f) is once h among two =
    let first : IsFirst f sleepers = first_is_first sleepers f is in
    elim (or_cases (f.thread == s.thread) false among) [
      | inl e ↦ subst (λ (w : Sleeper). IsFirst w sleepers) (one_sleeper f s sleepers once first.sleeps h (eqb-true f.thread s.thread e)) first
      | inr bad ↦ absurd (cc bad)
    ]

-- where somebody is told that it sleeps for good, no timeout ends first
none_first : (sleepers : List Sleeper) (o : Option Sleeper) → first_to_end sleepers ≡ o
    → cond (is_some o) (Number 2) ForGood ≡ ForGood → first_to_end sleepers ≡ None
none_first sleepers None is good = is
none_first sleepers (Some f) is good = absurd (cc good)

all_pass : (q : WaitQueue) → is_stuck q ≡ true → (m : ℕ) → is_alive q m ≡ true → is_asleep q m ≡ true
all_pass q stuck m alive =
    let each : list_all (λ n. is_asleep q n) q.alive ≡ true = (and_parts (nat_lt 0 (length q.alive)) (list_all (λ n. is_asleep q n) q.alive) stuck).1 in
    elim (cases_Bool (is_asleep q m)) [
      | inl is ↦ is
      | inr isnt ↦ absurd (both_ways (list_all (λ n. is_asleep q n) q.alive) (all_fails (λ n. is_asleep q n) m q.alive alive isnt) each)
    ]

-- A sleeper is woken by settling, with this answer.
record IsToldBySettling (q : WaitQueue) (s : Sleeper) (a : Answer) : Type 0 where
  stuck : is_stuck q ≡ true
  among : is_among s.thread (ended q.sleepers) ≡ true
  answer : end_answer q.sleepers ≡ a

module _ (q : WaitQueue) (sound : IsSound q) (s : Sleeper) (here : IsIn s q.sleepers) where
  -- nothing is due to a sleeper
  not_yet : (a : Answer) → answer_due q s.thread ≡ Some a → ⊥
  not_yet a due = let none : answer_due q s.thread ≡ None = sound.unanswered s.thread (in_among s q.sleepers here) in cc (none, due)

  told_stuck : (a : Answer) → is_stuck q ≡ true → answer_due (wakes (ended q.sleepers) (end_answer q.sleepers) q) s.thread ≡ Some a → IsToldBySettling q s a
  told_stuck a stuck due =
      elim (cases_Bool (is_among s.thread (ended q.sleepers))) [
        | inl among ↦ (let told : answer_due (wakes (ended q.sleepers) (end_answer q.sleepers) q) s.thread ≡ Some (end_answer q.sleepers) =
            due_after-woken s.thread (ended q.sleepers) (end_answer q.sleepers) q.due (has_place q sound s.thread (in_among s q.sleepers here)) among in
            let same : end_answer q.sleepers ≡ a = cc (told, due) in
            record { stuck = stuck; among = among; answer = same })
        | inr isnt ↦ absurd (not_yet a (sym (due_after-other s.thread (ended q.sleepers) (end_answer q.sleepers) q.due isnt) ∙ due))
      ]

  -- what is due to a sleeper after settling, settling told it
  told_settled : (a : Answer) → answer_due (settled q) s.thread ≡ Some a → IsToldBySettling q s a
  told_settled a due =
      elim (cases_Bool (is_stuck q)) [
        | inl stuck ↦ told_stuck a stuck
            (ap (λ w. answer_due w s.thread) (sym (cond-true (is_stuck q) (wakes (ended q.sleepers) (end_answer q.sleepers) q) q stuck)) ∙ due)
        | inr unstuck ↦ absurd (not_yet a (ap (λ w. answer_due w s.thread) (sym (settled_same q unstuck)) ∙ due))
      ]

  ends_two : IsToldBySettling q s (Number 2) → TimeoutEnds q s
  ends_two told =
      let first : IsFirst s q.sleepers = first_told s q.sleepers (first_to_end q.sleepers) refl sound.once here told.among told.answer in
      record {
        all_sleep = λ m alive. all_pass q told.stuck m alive;
        positive = ltb-true 0 (amount s.timeout) first.timed;
        first = λ t h positive. first.least t (in_from_contains t q.sleepers h) (lt-ltb 0 (amount t.timeout) positive);
      }

  ends_for_good : IsToldBySettling q s ForGood → AllSleepForGood q
  ends_for_good told = record {
    all_sleep = λ m alive. all_pass q told.stuck m alive;
    untimed = λ t h.
        let least : amount t.timeout ≤ 0 = ltb-false 0 (amount t.timeout)
        (none_timed q.sleepers (none_first q.sleepers (first_to_end q.sleepers) refl told.answer) t (in_from_contains t q.sleepers h)) in
        omega arith;
  }

-- the steps

told_question : (q : WaitQueue) (n : ℕ) (question : Question) (v : ℕ) (s : Sleeper) (a : Answer) → IsFree q n
    → IsSound q → IsIn s (asked q n question v).sleepers
    → answer_due (after_question q n question v) s.thread ≡ Some a → IsToldBySettling (asked q n question v) s a
unfolding after_question
told_question q n question v s a free sound here due = told_settled (asked q n question v) (IsSound-asked q n question v free sound) s here a due

told_step : (q : WaitQueue) (n : ℕ) (event : Event) (reply : Reply) (s : Sleeper) (a : Answer) → IsAllowed q n event → IsSound q
    → IsIn s (unsettled q n event reply).sleepers → answer_due (queue_step q n event reply) s.thread ≡ Some a → IsToldBySettling (unsettled q n event reply) s a
told_step q n (Ask question) OutOfBounds s a free sound here due = absurd (not_yet q sound s here a due)
told_step q n (Ask question) (Value v) s a free sound here due = told_question q n question v s a free sound here due
told_step q n (Ask question) Done s a free sound here due = told_question q n question 0 s a free sound here due
told_step q n (Ask question) Again s a free sound here due = told_question q n question 0 s a free sound here due
told_step q n (Ask question) Full s a free sound here due = told_question q n question 0 s a free sound here due
told_step q n (Told answer) reply s a allowed sound here due =
    let after : IsSound (after_answer q n) = IsSound-step q n (Told answer) reply allowed sound in
    absurd (not_yet (after_answer q n) after s here a due)
told_step q n _ reply s a allowed sound here due = absurd (not_yet q sound s here a due)

-- the queue before it settles is sound
sound_unsettled : (q : WaitQueue) (n : ℕ) (event : Event) (reply : Reply) → IsAllowed q n event → IsSound q → IsSound (unsettled q n event reply)
sound_unsettled q n (Ask question) OutOfBounds free sound = sound
sound_unsettled q n (Ask question) (Value v) free sound = IsSound-asked q n question v free sound
sound_unsettled q n (Ask question) Done free sound = IsSound-asked q n question 0 free sound
sound_unsettled q n (Ask question) Again free sound = IsSound-asked q n question 0 free sound
sound_unsettled q n (Ask question) Full free sound = IsSound-asked q n question 0 free sound
sound_unsettled q n (Told answer) reply allowed sound = IsSound-step q n (Told answer) reply allowed sound
sound_unsettled q n _ reply allowed sound = sound

module _ (history : List Entry) (e : Entry) (s : Sleeper) (legal : IsQueueLegal (history ++ e ∷ []))
    (here : Contains (unsettled (queue_after history) e.thread e.event e.reply).sleepers s) where
  sound_here : IsSound (unsettled (queue_after history) e.thread e.event e.reply)
  sound_here =
      sound_unsettled (queue_after history) e.thread e.event e.reply (last_allowed history e.thread e.event e.reply legal)
      (IsSound-after history (IsQueueLegal-prefix history (e ∷ []) legal))

  in_here : IsIn s (unsettled (queue_after history) e.thread e.event e.reply).sleepers
  in_here = in_from_contains s (unsettled (queue_after history) e.thread e.event e.reply).sleepers here

  told_here : (a : Answer) → answer_due (queue_after (history ++ e ∷ [])) s.thread ≡ Some a
      → IsToldBySettling (unsettled (queue_after history) e.thread e.event e.reply) s a
  told_here a due =
      told_step (queue_after history) e.thread e.event e.reply s a (last_allowed history e.thread e.event e.reply legal)
      (IsSound-after history (IsQueueLegal-prefix history (e ∷ []) legal)) in_here
      (ap (λ w. answer_due w s.thread) (sym (queue_after-one history e.thread e.event e.reply)) ∙ due)

  pub timeout_ends : answer_due (queue_after (history ++ e ∷ [])) s.thread ≡ Some (Number 2)
      → TimeoutEnds (unsettled (queue_after history) e.thread e.event e.reply) s
  timeout_ends due = ends_two (unsettled (queue_after history) e.thread e.event e.reply) sound_here s in_here (told_here (Number 2) due)

  pub sleeps_for_good : answer_due (queue_after (history ++ e ∷ [])) s.thread ≡ Some ForGood
      → AllSleepForGood (unsettled (queue_after history) e.thread e.event e.reply)
  sleeps_for_good due = ends_for_good (unsettled (queue_after history) e.thread e.event e.reply) sound_here s in_here (told_here ForGood due)
