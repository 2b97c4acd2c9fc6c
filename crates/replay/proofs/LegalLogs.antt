-- The log that a schedule makes is legal: for the memory, for the wait queue, and in the order of each thread's calls.
use Rattle.std.proofs.Common.{◌≡◌, ℕ, ◌<◌, ◌≤◌, true, false, List, [], ◌∷◌, ◌++◌, Option, Some, None, refl, sym, ◌∙◌, ap, subst, inl, inr, append_assoc}
use Rattle.std.specs.List.{All}
use Rattle.std.proofs.lemmas.Bool.{cases_lt, cases_Bool}
use Rattle.std.proofs.lemmas.List.Elements.{All-head, All-tail}
use Rattle.types.specs.declared.event.Event.{Event}
use Rattle.types.specs.declared.event.Event.TheVariants as events
use Rattle.types.specs.declared.event.Question.TheVariants.{Leave}
use Rattle.types.specs.declared.event.Answer.{Answer}
use Rattle.types.specs.declared.event.Reply.{Reply}
use Rattle.types.specs.declared.event.Reply.TheVariants as replies
use Rattle.types.specs.declared.event.Entry as entries
use Rattle.types.specs.declared.limits.TheConstants.{MOST_THREADS}
use Rattle.shared_memory.specs.Memory.{Memory, reply_of, state_after}
use Rattle.shared_memory.specs.WaitQueue.{WaitQueue, first_queue, is_alive, is_asleep, answer_due, next_id, IsFree}
use Rattle.shared_memory.specs.History.{entry, of_queue, queue_step, queue_from}
use Rattle.shared_memory.specs.Legal.{IsMemoryLegal, IsAllowed, IsQueueLegalFrom, IsInTurn, IsWellFormedFrom}
use Rattle.shared_memory.specs.Sound.{IsSound}
use Rattle.shared_memory.proofs.Histories.{queue_from-append}
use Rattle.shared_memory.proofs.Soundness.{IsSound-step, IsSound-opening}
use Rattle.schedule.specs.System.{Act, Act.Made, Act.Heard, Entry, Mark}
use Rattle.schedule.specs.Histories.{Place, Place.Unstarted, Place.Free, Place.Open, Place.Due, if_made, without_answers}
use Rattle.schedule.specs.Histories.{IsLegalEntry, IsLegalHistory, IsFreeAt, IsOrdered}
use Rattle.schedule_threads.specs.Shared.{Shared, act_by, act_of}
use Rattle.schedule_runs.specs.Runs.{Start, system_of, shared_for, first_places, as_acts}
use Rattle.schedule_runs.specs.Places.{place_of, place_due}
use Rattle.schedule_runs.proofs.Places.{place_unstarted, place_open, place_awake}
use Rattle.schedule_runs.proofs.Asked.{shared_of}
use Rattle.schedule_runs.proofs.Entries.{StandAt, EntryStep, entry_step}
use Rattle.schedule_runs.proofs.Linked.{first_is_for, first_stand_for}
use Rattle.schedule_runs.proofs.Alive.{HasLeave, alive_until_from}
use Rattle.replay_text.specs.declared.parts.RecordParts.{RecordParts}
use Rattle.replay_text.specs.Conditions.{IsEntry, is_reply_to}
use Rattle.replay_text.proofs.Whole.{counted}
use Rattle.replay_rules.specs.Recorded.{MakesLog}
use Rattle.replay.specs.Runs.{start_of_record}
use Rattle.replay.specs.Verdicts.{LogsOfRunsAreLegal}
use Rattle.replay.proofs.Left.{NoneOf, LeavesLast, first_last}

-- who has left makes no event

none_rest : (n k : ℕ) (a : Act Event Reply Answer) (H : List (Entry Event Reply Answer)) → NoneOf n (if_made k a H) → NoneOf n H
none_rest n k (Made e v) H h = h.1
none_rest n k (Heard a) H h = h

last_rest : (k : ℕ) (a : Act Event Reply Answer) (H : List (Entry Event Reply Answer)) → LeavesLast (if_made k a H) → LeavesLast H
last_rest k (Made e v) H h = h.1
last_rest k (Heard a) H h = h

abbrev made_of : List entries.Entry → List (Entry Event Reply Answer)
made_of H = without_answers (as_acts H)

module _ (e : entries.Entry) (made : act_of e ≡ Made e.event e.reply) where
  not_none : (xs ys : List entries.Entry) → NoneOf e.thread (made_of (xs ++ e ∷ ys)) → ⊥
  not_none [] ys none =
      let here : NoneOf e.thread (if_made e.thread (Made e.event e.reply) (made_of ys)) =
      subst (λ (a : Act Event Reply Answer). NoneOf e.thread (if_made e.thread a (made_of ys))) made none in
      here.0 refl
  not_none (x ∷ xs) ys none = not_none xs ys (none_rest e.thread x.thread (act_of x) (made_of (xs ++ e ∷ ys)) none)

  not_left : (xs ys : List entries.Entry) → LeavesLast (made_of (xs ++ e ∷ ys)) → HasLeave e.thread xs → ⊥
  not_left [] ys last has = has
  not_left (x ∷ xs) ys last (inl is) =
      let left : act_of x ≡ Made (events.Ask Leave) x.reply = ap (λ (event : Event). act_by event x.reply) is.event in
      let here : LeavesLast (if_made x.thread (Made (events.Ask Leave) x.reply) (made_of (xs ++ e ∷ ys))) =
      subst (λ (a : Act Event Reply Answer). LeavesLast (if_made x.thread a (made_of (xs ++ e ∷ ys)))) left last in
      not_none xs ys (subst (λ (k : ℕ). NoneOf k (made_of (xs ++ e ∷ ys))) is.of_thread (here.0 tt))
  not_left (x ∷ xs) ys last (inr has) = not_left xs ys (last_rest x.thread (act_of x) (made_of (xs ++ e ∷ ys)) last) has

-- places, and what the queue says

due_free : (o : Option Answer) → place_due o ≡ Free → o ≡ None
due_free None is = refl
due_free (Some a) is = absurd (cc is)

due_some : (o : Option Answer) (a : Answer) → place_due o ≡ Due a → o ≡ Some a
due_some None a is = absurd (cc is)
due_some (Some x) a is = cc is

module _ (q : WaitQueue) (n : ℕ) where
  known_place : (p : Place Answer) → place_of q n ≡ p → (p ≡ Unstarted → ⊥) → n < next_id q
  known_place p is isnt = elim (cases_lt n (next_id q)) [ inl known ↦ known | inr past ↦ absurd (isnt (sym is ∙ place_unstarted q n past)) ]

  awake_place : (p : Place Answer) → place_of q n ≡ p → (p ≡ Unstarted → ⊥) → (p ≡ Open → ⊥) → is_asleep q n ≡ false
  awake_place p is isnt shut =
      elim (cases_Bool (is_asleep q n)) [
        | inl asleep ↦ absurd (shut (sym is ∙ place_open q n (known_place p is isnt) asleep))
        | inr awake ↦ awake
      ]

  due_place : (p : Place Answer) → place_of q n ≡ p → (p ≡ Unstarted → ⊥) → (p ≡ Open → ⊥) → place_due (answer_due q n) ≡ p
  due_place p is isnt shut = sym (place_awake q n (known_place p is isnt) (awake_place p is isnt shut)) ∙ is

  due_told : (a : Answer) → place_of q n ≡ Due a → (n < next_id q) × (answer_due q n ≡ Some a)
  due_told a is =
      let isnt : ◌≡◌ {A = Place Answer} (Due a) Unstarted → ⊥ = λ e. absurd (cc e) in
      let shut : ◌≡◌ {A = Place Answer} (Due a) Open → ⊥ = λ e. absurd (cc e) in
      (known_place (Due a) is isnt, due_some (answer_due q n) a (due_place (Due a) is isnt shut))

  free_there : place_of q n ≡ Free → (n < next_id q) × (is_asleep q n ≡ false) × (answer_due q n ≡ None)
  free_there is =
      let isnt : ◌≡◌ {A = Place Answer} Free Unstarted → ⊥ = λ e. absurd (cc e) in
      let shut : ◌≡◌ {A = Place Answer} Free Open → ⊥ = λ e. absurd (cc e) in
      (known_place Free is isnt, awake_place Free is isnt shut, due_free (answer_due q n) (due_place Free is isnt shut))

-- one entry

-- What is asked of an entry behind a queue and a memory.
record Fits (mem : Memory) (q : WaitQueue) (n : ℕ) (event : Event) (reply : Reply) : Type 0 where
  known : n < next_id q
  allowed : IsAllowed q n event
  turn : IsInTurn q n event
  reply_is : reply ≡ reply_of mem event

-- the reply to an answer taken
told_done : (a : Answer) (reply : Reply) → is_reply_to (events.Told a) reply ≡ true → reply ≡ replies.Done
told_done a (replies.Value v) kind = absurd (cc kind)
told_done a replies.Done kind = refl
told_done a replies.OutOfBounds kind = absurd (cc kind)
told_done a replies.Again kind = absurd (cc kind)
told_done a replies.Full kind = absurd (cc kind)

-- a question, or another event, of a free thread
fits_free : (mem : Memory) (q : WaitQueue) (n : ℕ) (event : Event) (reply : Reply) → act_by event reply ≡ Made event reply → n < next_id q
    → IsFree q n → reply ≡ reply_of mem event → Fits mem q n event reply
fits_free mem q n (events.Ask question) reply made known free is = record { known = known; allowed = free; turn = free; reply_is = is }
fits_free mem q n (events.Told a) reply made known free is = absurd (cc made)
fits_free mem q n event reply made known free is = record { known = known; allowed = tt; turn = free; reply_is = is }

module _ (b : Start) (mem : Memory) (q : WaitQueue) (places : ℕ → Place Answer) (n : ℕ) (stand : StandAt q places) where
  fits : (event : Event) (reply : Reply) → IsLegalEntry (system_of b) (shared_of mem q) places n (act_by event reply)
      → IsFreeAt (system_of b) places n (act_by event reply) → is_reply_to event reply ≡ true
      → (act_by event reply ≡ Made event reply → n < next_id q → is_alive q n ≡ true) → Fits mem q n event reply
  fits (events.Told a) reply legal free kind alive =
      let due = due_told q n a (sym (stand n) ∙ legal) in
      record { known = due.0; allowed = due.1; turn = tt; reply_is = told_done a reply kind }
  fits event reply legal free kind alive =
      let there = free_there q n (sym (stand n) ∙ free) in
      fits_free mem q n event reply refl there.0 (record { alive = alive refl there.0; awake = there.1; told = there.2 }) legal.1

-- an allowed entry before a legal rest
more_legal : (q : WaitQueue) (n : ℕ) (event : Event) (reply : Reply) (H : List entries.Entry) → IsAllowed q n event
    → IsQueueLegalFrom (queue_step q n event reply) (of_queue H) → IsQueueLegalFrom q (of_queue (entry n event reply ∷ H))
more_legal q n (events.Ask question) reply H allowed rest = (allowed, rest)
more_legal q n (events.Told a) reply H allowed rest = (allowed, rest)
more_legal q n event reply H allowed rest = rest

-- all entries

-- What is shown of the entries from a memory and a queue on.
record Rest (mem : Memory) (q : WaitQueue) (H : List entries.Entry) : Type 0 where
  memory : IsMemoryLegal mem H
  queue : IsQueueLegalFrom q (of_queue H)
  form : IsWellFormedFrom q H

module _ (b : Start) (threads : ℕ) (log : List entries.Entry) (last : LeavesLast (made_of log)) where
  legal_rest : (xs ys : List entries.Entry) → log ≡ xs ++ ys → (mem : Memory) (q : WaitQueue) → q ≡ queue_from (first_queue threads) xs
      → (places : ℕ → Place Answer) (x : Shared) → x ≡ shared_of mem q → IsSound q → StandAt q places
      → IsLegalHistory (system_of b) x places (as_acts ys) → IsOrdered (system_of b) x places (as_acts ys) → All (IsEntry threads) ys
      → Rest mem q ys
  legal_rest xs [] split mem q queue_is places x is sound stand legal ordered kinds = record { memory = tt; queue = tt; form = tt }
  legal_rest xs (e ∷ ys) split mem q queue_is places x is sound stand legal ordered kinds =
      let legal' : IsLegalHistory (system_of b) (shared_of mem q) places (as_acts (e ∷ ys)) =
      subst (λ (y : Shared). IsLegalHistory (system_of b) y places (as_acts (e ∷ ys))) is legal in
      let ordered' : IsOrdered (system_of b) (shared_of mem q) places (as_acts (e ∷ ys)) =
      subst (λ (y : Shared). IsOrdered (system_of b) y places (as_acts (e ∷ ys))) is ordered in
      let fit : Fits mem q e.thread e.event e.reply =
      fits b mem q places e.thread stand e.event e.reply legal'.0 ordered'.0 (All-head (IsEntry threads) e ys kinds).reply alive in
      let step : EntryStep b mem q places e.thread e.event e.reply =
      entry_step b mem q places e.thread e.event e.reply sound stand fit.reply_is fit.allowed fit.known in
      let rest : Rest (state_after mem e.event) (queue_step q e.thread e.event e.reply) ys =
      legal_rest (xs ++ e ∷ []) ys (split ∙ sym (append_assoc xs (e ∷ []) ys)) (state_after mem e.event) (queue_step q e.thread e.event e.reply)
      (ap (λ (w : WaitQueue). queue_step w e.thread e.event e.reply) queue_is ∙ sym (queue_from-append (first_queue threads) xs (e ∷ []))) _ _
      step.shared (IsSound-step q e.thread e.event e.reply fit.allowed sound) step.stand legal'.1 ordered'.1 (All-tail (IsEntry threads) e ys kinds) in
      record {
        memory = (fit.reply_is, rest.memory);
        queue = more_legal q e.thread e.event e.reply ys fit.allowed rest.queue;
        form = (fit.turn, rest.form);
      }
    where
      alive : act_of e ≡ Made e.event e.reply → e.thread < next_id q → is_alive q e.thread ≡ true
      alive made known =
          elim (alive_until_from threads xs e.thread (subst (λ (w : WaitQueue). e.thread < next_id w) queue_is known)) [
            | inl there ↦ subst (λ (w : WaitQueue). is_alive w e.thread ≡ true) (sym queue_is) there
            | inr has ↦ absurd (not_left e made xs ys (subst (λ (l : List entries.Entry). LeavesLast (made_of l)) split last) has)
          ]

made_legal : (b : Start) (r : RecordParts) (S : List Mark) → MakesLog b r S → 0 < r.threads → r.threads ≤ MOST_THREADS
    → All (IsEntry r.threads) r.log → Rest b.opening (first_queue r.threads) r.log
made_legal b r S makes some few kinds =
    legal_rest b r.threads r.log (subst LeavesLast makes.events (first_last b r.threads S)) [] r.log refl b.opening (first_queue r.threads) refl
    first_places (shared_for r.threads b) (first_is_for r.threads b) (IsSound-opening r.threads some few) (first_stand_for r.threads)
    makes.legal makes.ordered kinds

pub logs_of_runs_are_legal : LogsOfRunsAreLegal
logs_of_runs_are_legal m r end kept run =
    let count = (counted r.version r.module_len r.threads r.max_pages kept.numbers.scale).0 in
    let rest = made_legal (start_of_record m r run.beginning) r run.recorded.schedule run.recorded.makes count.0 count.1 kept.log in
    record { memory = rest.memory; queue = rest.queue; form = rest.form }
