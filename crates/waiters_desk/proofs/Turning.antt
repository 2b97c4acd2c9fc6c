-- What a caller with the queue right leaves: its question, its answer, or both.
use Rattle.std.proofs.Common.{◌≡◌, ◌≢◌, ℕ, ◌+◌, ◌==◌, Bool, true, false, not, List, [], ◌∷◌, ◌++◌, Option, Some, None, refl, sym, ◌∙◌, ap, subst, append_assoc}
use Rattle.std.specs.Prelude.{nat_le, length}
use Rattle.std.proofs.lemmas.Bool.{cond_both, and_parts, eqb-true, not-true}
use Rattle.types.specs.declared.event.Entry.{Entry}
use Rattle.types.specs.declared.event.Event.{Event}
use Rattle.types.specs.declared.event.Event.TheVariants.{Ask, Told}
use Rattle.types.specs.declared.event.Question.{Question}
use Rattle.types.specs.declared.event.Question.TheVariants.{Wait, Notify, Spawn, Leave}
use Rattle.types.specs.declared.event.Answer.{Answer}
use Rattle.types.specs.declared.event.Answer.TheVariants.{Number, ForGood}
use Rattle.types.specs.declared.event.Reply.{Reply}
use Rattle.types.specs.declared.event.Reply.TheVariants.{Value, Done, OutOfBounds, Again, Full}
use Rattle.types.specs.declared.limits.TheConstants.{MOST_THREADS}
use Rattle.shared_memory.specs.Events.{is_of_queue}
use Rattle.shared_memory.specs.Memory.{Memory, loaded, reply_of, reply_to_question}
use Rattle.shared_memory.specs.WaitQueue.{WaitQueue, first_queue, answer_due, ends_at_once, after_answer, IsFree}
use Rattle.shared_memory.specs.History.{entry, entries_of, of_queue, memory_after, queue_step, queue_after}
use Rattle.shared_memory.specs.Legal.{IsMemoryLegal, IsAllowed, IsQueueLegal, MayEnter}
use Rattle.shared_memory.specs.Access.{HasRoom, Gains, Answers, Accesses, IsFull, lost_after}
use Rattle.shared_memory.specs.Sound.{IsSound}
use Rattle.shared_memory.proofs.Histories.{entries_of-append, entries_of-own, of_queue-quiet, same_queue}
use Rattle.shared_memory.proofs.Histories.{same_queue_legal, queue_after-entry, IsQueueLegal-entry, IsMemoryLegal-rest}
use Rattle.waiters.specs.Queue.{falls_asleep}
use Rattle.waiters_desk.specs.declared.answers.Asked.TheVariants as asked
use Rattle.waiters_desk.specs.Calls.{IsBeside, IsWaiting, IsGone, EntersAtDesk, FindsRoom, Hears, Asks, Refused, Puts}
use Rattle.waiters_desk.specs.Calls.{CanMiss, reply_with, step_of, asked_with, taken}
use Rattle.waiters_desk.proofs.Entering.{enters_then, room_then}
use Rattle.waiters_desk.proofs.AtOnce.{HasNumber, TellsNumber, StaysAt, number_due, sound_step, alive_step, left_step, free_heard, gone_heard, waiting_step}

-- beside a list

-- what the queue allows may be entered
pub may_enter : (q : WaitQueue) (seen : List Entry) (n : ℕ) (event : Event) → IsBeside q seen → IsAllowed q n event → MayEnter n event seen
unfolding MayEnter
may_enter q seen n event beside allowed = subst (λ (w : WaitQueue). IsAllowed w n event) beside.tied allowed

-- entries of others leave it beside
pub gains_beside : (q : WaitQueue) (n : ℕ) (right : Bool) (before others after : List Entry) → right ≡ true
    → IsBeside q before → Gains n right before others after → IsBeside q after
gains_beside q n right before others after has beside gains =
    let same : of_queue after ≡ of_queue before = ap of_queue gains.list ∙ of_queue-quiet before others (gains.quiet has) in
    record { tied = beside.tied ∙ sym (same_queue after before same); legal = same_queue_legal after before same beside.legal }

-- an entry of the queue
module _ (opening : Memory) (limit : Option ℕ) (q : WaitQueue) (n : ℕ) (right : Bool) (event : Event) (reply : Reply)
    (before after : List Entry) (is : is_of_queue event ≡ true)
    (has : right ≡ true) (beside : IsBeside q before) (allowed : IsAllowed q n event) (a : Answers opening limit n right event reply before after) where
  -- is its step
  pub answers_beside : IsBeside (queue_step q n event reply) after
  answers_beside =
      let so : IsBeside q a.so_far = gains_beside q n right before a.others a.so_far has beside a.gains in
      subst (λ (w : List Entry). IsBeside (queue_step q n event reply) w) (sym a.list) (record {
        tied = ap (λ (w : WaitQueue). queue_step w n event reply) so.tied ∙ sym (queue_after-entry a.so_far n event reply is);
        legal = IsQueueLegal-entry a.so_far n event reply is so.legal (may_enter q a.so_far n event so allowed);
      })

  -- and enters it alone
  pub answers_enters : EntersAtDesk opening n (entry n event reply ∷ []) before after
  answers_enters = record {
    added = a.others ++ entry n event reply ∷ [];
    list = a.list ∙ (ap (λ w. w ++ entry n event reply ∷ []) a.gains.list ∙ append_assoc before a.others (entry n event reply ∷ []));
    of_caller = entries_of-append n a.others (entry n event reply ∷ [])
        ∙ (ap (λ w. w ++ entries_of n (entry n event reply ∷ [])) a.gains.apart ∙ entries_of-own n event reply);
    seen = a.seen;
    legal = answers_beside.legal;
  }

  -- with the memory's reply
  pub answers_reply : reply ≡ reply_of (memory_after opening a.so_far) event
  answers_reply =
      (IsMemoryLegal-rest opening a.so_far (entry n event reply ∷ []) (subst (IsMemoryLegal opening) a.list a.seen.legal)).0

-- which replies a question gets

pub value_reply : (m : Memory) (question : Question) (v : ℕ) → Value v ≡ reply_to_question m question → reply_with question (Some v) ≡ Value v
value_reply m (Wait addr width expected timeout) v is = refl
value_reply m (Notify addr count) v is =
    cond_both (nat_le (addr + 4) (length m.bytes)) Done OutOfBounds (λ (w : Reply). Value v ≡ w → Done ≡ Value v)
    (λ inside e. absurd (cc e)) (λ outside e. absurd (cc e)) is
value_reply m (Spawn arg) v is = absurd (cc is)
value_reply m Leave v is = absurd (cc is)

pub done_reply : (m : Memory) (question : Question) → Done ≡ reply_to_question m question → reply_with question (Some 0) ≡ Done
done_reply m (Wait addr width expected timeout) is =
    cond_both (nat_le (addr + width) (length m.bytes))
    (Value (loaded m addr width)) OutOfBounds (λ (w : Reply). Done ≡ w → Value 0 ≡ Done) (λ inside e. absurd (cc e))
    (λ outside e. absurd (cc e)) is
done_reply m (Notify addr count) is = refl
done_reply m (Spawn arg) is = refl
done_reply m Leave is = refl

pub outside_reply : (m : Memory) (question : Question) → OutOfBounds ≡ reply_to_question m question → CanMiss question
outside_reply m (Wait addr width expected timeout) is = tt
outside_reply m (Notify addr count) is = tt
outside_reply m (Spawn arg) is = absurd (cc is)
outside_reply m Leave is = absurd (cc is)

-- a question that is entered found room
pub answers_room : (opening : Memory) (limit : Option ℕ) (n : ℕ) (right : Bool) (question : Question) (reply : Reply) (before after : List Entry)
    → Answers opening limit n right (Ask question) reply before after → FindsRoom limit n question reply before after
answers_room opening limit n right question reply before after a = record {
  others = a.others;
  rest = [];
  list = a.list ∙ ap (λ w. w ++ asked_with n question reply ∷ []) a.gains.list;
  apart = a.gains.apart;
  room = subst (HasRoom limit (Ask question)) a.gains.list a.room;
}

-- a question that is asked
module _ (opening : Memory) (limit : Option ℕ) (q : WaitQueue) (n : ℕ) (right : Bool) (question : Question) (before after : List Entry) (has : right ≡ true)
    (beside : IsBeside q before) (free : IsFree q n) where
  -- its reply and its step, as the question has them
  module _ (reply : Reply) (v : ℕ) (fits : (m : Memory) → reply ≡ reply_to_question m question → reply_with question (Some v) ≡ reply)
      (a : Answers opening limit n right (Ask question) reply before after) where
    pub reply_is : reply_with question (Some v) ≡ reply
    reply_is = fits (memory_after opening a.so_far) (answers_reply opening limit q n right (Ask question) reply before after refl has beside free a)

    pub asks_beside : IsBeside (step_of question (Some v) n q) after
    asks_beside =
        subst (λ (r : Reply). IsBeside (queue_step q n (Ask question) r) after) (sym reply_is)
        (answers_beside opening limit q n right (Ask question) reply before after refl has beside free a)

    pub asks_with : Asks opening limit n question (Some v) before after
    asks_with = record {
      enters = subst (λ (r : Reply). EntersAtDesk opening n (asked_with n question r ∷ []) before after) (sym reply_is)
          (answers_enters opening limit q n right (Ask question) reply before after refl has beside free a);
      room = subst (λ (r : Reply). FindsRoom limit n question r before after) (sym reply_is) (answers_room opening limit n right question reply before after a);
      can = tt;
    }

    pub asks_step : step_of question (Some v) n q ≡ queue_step q n (Ask question) reply
    asks_step = ap (λ (r : Reply). queue_step q n (Ask question) r) reply_is

  pub asks_outside : Answers opening limit n right (Ask question) OutOfBounds before after → Asks opening limit n question None before after
  asks_outside a = record {
    enters = answers_enters opening limit q n right (Ask question) OutOfBounds before after refl has beside free a;
    room = answers_room opening limit n right question OutOfBounds before after a;
    can = outside_reply (memory_after opening a.so_far) question
        (answers_reply opening limit q n right (Ask question) OutOfBounds before after refl has beside free a);
  }

  pub asks_refused : IsFull opening limit n right (Ask question) before after → Refused opening limit n before after
  asks_refused full =
      let beside' : IsBeside q after = gains_beside q n right before full.others after has beside full.gains in record {
        enters = record { added = full.others; list = full.gains.list; of_caller = full.gains.apart; seen = full.seen; legal = beside'.legal };
        free = subst (λ (w : WaitQueue). IsFree w n) beside'.tied free;
        reached = full.reached;
      }

-- an answer that is taken is always entered
told_done : (loses : Bool) (opening : Memory) (limit : Option ℕ) (q : WaitQueue) (n : ℕ) (right : Bool)
    (answer : Answer) (reply : Reply) (before after : List Entry)
    → right ≡ true → IsBeside q before → answer_due q n ≡ Some answer → Accesses loses opening limit n right (Told answer) before after reply
    → Answers opening limit n right (Told answer) Done before after
told_done loses opening limit q n right answer (Value v) before after has beside due a =
    let bad : Value v ≡ Done = answers_reply opening limit q n right (Told answer) (Value v) before after refl has beside due a in absurd (cc bad)
told_done loses opening limit q n right answer Done before after has beside due a = a
told_done loses opening limit q n right answer OutOfBounds before after has beside due a =
    let bad : OutOfBounds ≡ Done = answers_reply opening limit q n right (Told answer) OutOfBounds before after refl has beside due a in absurd (cc bad)
told_done loses opening limit q n right answer Again before after has beside due a = let bad : false ≡ true = a.kind in absurd (cc bad)
told_done loses opening limit q n right answer Full before after has beside due a = let bad : true ≡ false = a.kind in absurd (cc bad)

module _ (loses : Bool) (opening : Memory) (limit : Option ℕ) (q : WaitQueue) (n : ℕ) (right : Bool) (answer : Answer)
    (reply : Reply) (before after : List Entry)
    (has : right ≡ true) (beside : IsBeside q before) (due : answer_due q n ≡ Some answer)
    (a : Accesses loses opening limit n right (Told answer) before after reply) where
  pub told_beside : IsBeside (after_answer q n) after
  told_beside =
      answers_beside opening limit q n right (Told answer) Done before after refl has beside due
      (told_done loses opening limit q n right answer reply before after has beside due a)

  pub told_enters : EntersAtDesk opening n (taken n answer ∷ []) before after
  told_enters =
      answers_enters opening limit q n right (Told answer) Done before after refl has beside due
      (told_done loses opening limit q n right answer reply before after has beside due a)

-- an answer is no try that can be lost
pub told_loses : (loses : Bool) (opening : Memory) (limit : Option ℕ) (n : ℕ) (right : Bool) (answer : Answer) (reply : Reply)
    (before after : List Entry) (lost : ℕ) → Accesses loses opening limit n right (Told answer) before after reply → lost_after reply lost ≡ lost
told_loses loses opening limit n right answer (Value v) before after lost a = refl
told_loses loses opening limit n right answer Done before after lost a = refl
told_loses loses opening limit n right answer OutOfBounds before after lost a = refl
told_loses loses opening limit n right answer Again before after lost a = let bad : false ≡ true = a.kind in absurd (cc bad)
told_loses loses opening limit n right answer Full before after lost a = refl

-- a question out of bounds
pub puts_outside : (opening : Memory) (limit : Option ℕ) (q : WaitQueue) (n : ℕ) (question : Question)
    (before after : List Entry) → IsFree q n → IsBeside q after
    → Asks opening limit n question None before after
    → Puts opening limit n question before after asked.OutOfBounds
puts_outside opening limit q n (Wait addr width expected timeout) before after free beside a =
    record { enters = a.enters; room = a.room; free = subst (λ (w : WaitQueue). IsFree w n) beside.tied free }
puts_outside opening limit q n (Notify addr count) before after free beside a =
    record { enters = a.enters; room = a.room; free = subst (λ (w : WaitQueue). IsFree w n) beside.tied free }
puts_outside opening limit q n (Spawn arg) before after free beside a = a.can
puts_outside opening limit q n Leave before after free beside a = a.can

-- a question that sleeps
pub puts_asleep : (opening : Memory) (limit : Option ℕ) (q r : WaitQueue) (n : ℕ) (question : Question) (v : ℕ)
    (before after : List Entry) → IsFree q n → IsSound q → r ≡ step_of question (Some v) n q
    → IsBeside r after → Asks opening limit n question (Some v) before after → falls_asleep question v ≡ true
    → Puts opening limit n question before after asked.Asleep
puts_asleep opening limit q r n (Wait addr width expected timeout) v before after free sound step beside a asleep =
    let parts : ((v == expected) ≡ true) × (not (ends_at_once timeout) ≡ true) = and_parts (v == expected) (not (ends_at_once timeout)) asleep in (
      record {
        enters = subst (λ (k : ℕ). EntersAtDesk opening n (asked_with n (Wait addr width expected timeout)
            (Value k) ∷ []) before after) (eqb-true v expected parts.0) a.enters;
        room = subst (λ (k : ℕ). FindsRoom limit n (Wait addr width expected timeout) (Value k) before after) (eqb-true v expected parts.0) a.room;
        waiting = subst (λ (w : WaitQueue). IsWaiting w n) (sym step ∙ beside.tied) (waiting_step q n addr width expected timeout v free sound);
      },
      not-true (ends_at_once timeout) parts.1,
    )
puts_asleep opening limit q r n (Notify addr count) v before after free sound step beside a asleep = absurd (cc asleep)
puts_asleep opening limit q r n (Spawn arg) v before after free sound step beside a asleep = absurd (cc asleep)
puts_asleep opening limit q r n Leave v before after free sound step beside a asleep = absurd (cc asleep)

-- a question that is answered at once
module _ (opening : Memory) (limit : Option ℕ) (q q1 q2 : WaitQueue) (n : ℕ) (v : ℕ) (before middle after : List Entry)
    (answer : Answer) (free : IsFree q n) (sound : IsSound q)
    (beside : IsBeside q2 after) (heard : EntersAtDesk opening n (taken n answer ∷ []) middle after)
    (due : answer_due q1 n ≡ Some answer) (took : q2 ≡ after_answer q1 n) where
  -- the number that is due is the answer taken
  answer_is : (question : Question) → q1 ≡ step_of question (Some v) n q → (awake : falls_asleep question v ≡ false)
      → Number (TellsNumber.number (number_due q n free sound question v awake)) ≡ answer
  answer_is question step awake =
      let told = number_due q n free sound question v awake in
      let same : Some (Number told.number) ≡ Some answer = sym told.due ∙ (ap (λ (w : WaitQueue). answer_due w n) (sym step) ∙ due) in cc

  due_step : (question : Question) → q1 ≡ step_of question (Some v) n q → answer_due (step_of question (Some v) n q) n ≡ Some answer
  due_step question step = ap (λ (w : WaitQueue). answer_due w n) (sym step) ∙ due

  free_step : (question : Question) → q1 ≡ step_of question (Some v) n q → StaysAt question → IsFree (queue_after after) n
  free_step question step stays =
      subst (λ (w : WaitQueue). IsFree w n) (ap (λ (w : WaitQueue). after_answer w n) (sym step) ∙ (sym took ∙ beside.tied))
      (free_heard (step_of question (Some v) n q) n answer (due_step question step)
      (sound_step q n free sound question v) (alive_step q n question v stays free.alive))

  hears : (question : Question) (number : ℕ) → Asks opening limit n question (Some v) before middle
      → q1 ≡ step_of question (Some v) n q → StaysAt question → answer ≡ Number number
      → Hears opening limit n question (reply_with question (Some v)) number before after
  hears question number a step stays is = record {
    enters = subst (λ (k : Answer). EntersAtDesk opening n (asked_with n question (reply_with question (Some v)) ∷ taken n k ∷ []) before after) is
        (enters_then opening n (asked_with n question (reply_with question (Some v)) ∷ []) (taken n answer ∷ []) before middle after a.enters heard);
    room = room_then opening limit n question (reply_with question (Some v)) (taken n answer ∷ []) before middle after heard a.room;
    free = free_step question step stays;
  }

  pub puts_told : (question : Question) (number : ℕ) → Asks opening limit n question (Some v) before middle
      → q1 ≡ step_of question (Some v) n q → falls_asleep question v ≡ false
      → answer ≡ Number number → Puts opening limit n question before after (asked.Told number)
  puts_told (Wait addr width expected timeout) number a step awake is =
      let told = number_due q n free sound (Wait addr width expected timeout) v awake in
      let both : Number told.number ≡ Number number = answer_is (Wait addr width expected timeout) step awake ∙ is in
      let same : told.number ≡ number = cc in
      (v, hears (Wait addr width expected timeout) number a step tt is, subst (λ (k : ℕ). HasNumber (Wait addr width expected timeout) v k) same told.fits)
  puts_told (Notify addr count) number a step awake is = hears (Notify addr count) number a step tt is
  puts_told (Spawn arg) number a step awake is = hears (Spawn arg) number a step tt is
  puts_told Leave number a step awake is =
      let told = number_due q n free sound Leave v awake in
      let zero_is : Number 0 ≡ answer = ap Number (sym told.fits) ∙ answer_is Leave step awake in record {
        enters = subst (λ (k : Answer). EntersAtDesk opening n (asked_with n Leave Done ∷ taken n k ∷ []) before after) (sym zero_is)
            (enters_then opening n (asked_with n Leave Done ∷ []) (taken n answer ∷ []) before middle after a.enters heard);
        room = room_then opening limit n Leave Done (taken n answer ∷ []) before middle after heard a.room;
        gone = subst (λ (w : WaitQueue). IsGone w n) (ap (λ (w : WaitQueue). after_answer w n) (sym step) ∙ (sym took ∙ beside.tied))
            (gone_heard (step_of Leave (Some v) n q) n answer (due_step Leave step) (sound_step q n free sound Leave v) (left_step q n v));
      }

-- the answer due isn't that it sleeps for good
pub never_for_good : (q q1 : WaitQueue) (n : ℕ) (question : Question) (v : ℕ) → IsFree q n → IsSound q
    → q1 ≡ step_of question (Some v) n q → falls_asleep question v ≡ false
    → answer_due q1 n ≡ Some ForGood → ⊥
never_for_good q q1 n question v free sound step awake due =
    let told = number_due q n free sound question v awake in
    let same : Some (Number told.number) ≡ Some ForGood = sym told.due ∙ (ap (λ (w : WaitQueue). answer_due w n) (sym step) ∙ due) in absurd (cc same)

-- and one is due
pub some_due : (q q1 : WaitQueue) (n : ℕ) (question : Question) (v : ℕ) → IsFree q n → IsSound q
    → q1 ≡ step_of question (Some v) n q → falls_asleep question v ≡ false
    → answer_due q1 n ≢ None
some_due q q1 n question v free sound step awake none =
    let told = number_due q n free sound question v awake in
    let same : Some (Number told.number) ≡ None = sym told.due ∙ (ap (λ (w : WaitQueue). answer_due w n) (sym step) ∙ none) in absurd (cc same)

-- before any question
pub quiet_beside : (seen : List Entry) → of_queue seen ≡ [] → IsBeside (first_queue MOST_THREADS) seen
unfolding queue_after IsQueueLegal
quiet_beside seen quiet = record { tied = sym (same_queue seen [] quiet); legal = same_queue_legal seen [] quiet tt }
