-- Each entry comes in its thread's turn.
use Rattle.std.proofs.Common.{◌≡◌, ℕ, ◌<◌, ◌==◌, false, List, [], ◌∷◌, ◌++◌, Option, Some, None, refl, sym, ◌∙◌, ap, subst, inl, inr, append_assoc}
use Rattle.std.proofs.lemmas.Bool.{cases_Bool, cond-true, cond_both, eq-eqb}
use Rattle.types.specs.declared.event.Event.{Event}
use Rattle.types.specs.declared.event.Event.TheVariants as events
use Rattle.types.specs.declared.event.Question.TheVariants.{Leave}
use Rattle.types.specs.declared.event.Answer.{Answer}
use Rattle.types.specs.declared.event.Reply.{Reply}
use Rattle.types.specs.declared.event.Entry as entries
use Rattle.types.specs.declared.limits.TheConstants.{MOST_THREADS}
use Rattle.shared_memory.specs.WaitQueue.{WaitQueue, first_queue, is_asleep, answer_due, next_id, IsFree}
use Rattle.shared_memory.specs.History.{queue_from, queue_after}
use Rattle.shared_memory.specs.Legal.{IsInTurn, IsWellFormedFrom, IsWellFormed}
use Rattle.shared_memory.proofs.Histories.{queue_from-append}
use Rattle.schedule.specs.System.{Act, Act.Made, Act.Heard, Entry}
use Rattle.schedule.specs.Histories.{Place, Place.Free, Place.Open, acts_of, next_shared, next_places, places_after, IsFreeAt, IsOrdered}
use Rattle.schedule.proofs.Apart.{acts_both, acts_here}
use Rattle.schedule_threads.specs.Shared.{Shared, act_by, act_of}
use Rattle.schedule_runs.specs.Runs.{Start, system_of, first_shared, first_places, acted, as_acts}
use Rattle.schedule_runs.specs.Places.{place_of, place_due}
use Rattle.schedule_runs.proofs.Places.{place_open, place_awake}
use Rattle.schedule_runs.proofs.Linked.{IsStarted, prefix_legal, stand_after, queue_after-all}
use Rattle.schedule_runs.proofs.Seen.{as_acts-append}
use Rattle.schedule_runs.proofs.Leaving.{LeaveIsLast, HasLeft, none_after_leave}
use Rattle.schedule_runs.proofs.Alive.{HasLeave, alive_until}

-- an ordered history is ordered at each entry
ordered_at : (b : Start) (x : Shared) (places : ℕ → Place Answer) (F : List (Entry Event Reply Answer))
    (h : Entry Event Reply Answer) (G : List (Entry Event Reply Answer))
    → IsOrdered (system_of b) x places (F ++ h ∷ G) → IsFreeAt (system_of b) (places_after (system_of b) x places F) h.thread h.act
ordered_at b x places [] h G ordered = ordered.0
ordered_at b x places (f ∷ F) h G ordered = ordered_at b (next_shared (system_of b) x f.thread f.act)
    (next_places (system_of b) x places f.thread f.act) F h G ordered.1

-- who is free to the system doesn't sleep, and is owed nothing

free_asleep : (q : WaitQueue) (n : ℕ) → n < next_id q → place_of q n ≡ Free → is_asleep q n ≡ false
free_asleep q n known free =
    elim (cases_Bool (is_asleep q n)) [
      | inl asleep ↦ (let bad : ◌≡◌ {A = Place Answer} Open Free = sym (place_open q n known asleep) ∙ free in absurd (cc bad))
      | inr awake ↦ awake
    ]

none_due : (o : Option Answer) → place_due o ≡ Free → o ≡ None
none_due None is = refl
none_due (Some a) is = absurd (cc is)

free_told : (q : WaitQueue) (n : ℕ) → n < next_id q → place_of q n ≡ Free → answer_due q n ≡ None
free_told q n known free = none_due (answer_due q n) (sym (place_awake q n known (free_asleep q n known free)) ∙ free)

-- a thread's leave is one of its acts

more_left : (act : Act Event Reply Answer) (rest : List (Act Event Reply Answer)) → HasLeft rest → HasLeft (act ∷ rest)
more_left (Made (events.Ask Leave) reply) rest left = tt
more_left (Made event reply) rest left = left
more_left (Heard answer) rest left = left

has_left : (n : ℕ) (xs : List entries.Entry) → HasLeave n xs → HasLeft (acts_of n (as_acts xs))
has_left n [] has = absurd has
has_left n (e ∷ xs) (inl is) =
    let own : acts_of n (as_acts (e ∷ xs)) ≡ act_of e ∷ acts_of n (as_acts xs) = cond-true (e.thread == n)
    (act_of e ∷ acts_of n (as_acts xs)) (acts_of n (as_acts xs)) (eq-eqb e.thread n is.of_thread) in
    let made : act_of e ≡ Made (events.Ask Leave) e.reply = ap (λ (event : Event). act_by event e.reply) is.event in
    subst HasLeft (sym (own ∙ ap (λ (a : Act Event Reply Answer). a ∷ acts_of n (as_acts xs)) made)) tt
has_left n (e ∷ xs) (inr has) =
    cond_both (e.thread == n) (act_of e ∷ acts_of n (as_acts xs))
    (acts_of n (as_acts xs)) HasLeft (λ is. more_left (act_of e) (acts_of n (as_acts xs)) (has_left n xs has))
    (λ isnt. has_left n xs has)

-- an event asks for its thread to be free
in_turn : (b : Start) (q : WaitQueue) (places : ℕ → Place Answer) (n : ℕ) (event : Event) (reply : Reply) → IsFreeAt (system_of b) places n (act_by event reply)
    → (act_by event reply ≡ Made event reply → places n ≡ Free → IsFree q n) → IsInTurn q n event
in_turn b q places n (events.Told answer) reply free holds = tt
in_turn b q places n event reply free holds = holds refl free

module _ (b : Start) (H : List entries.Entry) (legal : IsStarted b.opening H)
    (known : (xs ys : List entries.Entry) (e : entries.Entry) → H ≡ xs ++ e ∷ ys
    → e.thread < next_id (queue_after xs))
    (ordered : IsOrdered (system_of b) (first_shared b) first_places (as_acts H)) (last : (n : ℕ) → LeaveIsLast (acts_of n (as_acts H))) where
  -- before an event of a thread it hasn't left
  not_left : (xs ys : List entries.Entry) (e : entries.Entry) → H ≡ xs ++ e ∷ ys → act_of e ≡ Made e.event e.reply → HasLeave e.thread xs → ⊥
  not_left xs ys e is made has =
      let n : ℕ = e.thread in
      let acts : acts_of n (as_acts H) ≡ acts_of n (as_acts xs) ++ Made e.event e.reply ∷ acts_of n (as_acts ys) =
      ap (λ w. acts_of n (as_acts w)) is ∙ (ap (acts_of n) (as_acts-append xs (e ∷ ys)) ∙ (acts_both n (as_acts xs) (as_acts (e ∷ ys))
      ∙ ap (λ w. acts_of n (as_acts xs) ++ w) (acts_here n (act_of e) (as_acts ys) ∙ ap (λ (a : Act Event Reply Answer). a ∷ acts_of n (as_acts ys)) made))) in
      none_after_leave (acts_of n (as_acts xs)) (acts_of n (as_acts ys)) e.event e.reply (subst LeaveIsLast acts (last n)) (has_left n xs has)

  free_before : (xs ys : List entries.Entry) (e : entries.Entry) → H ≡ xs ++ e ∷ ys → act_of e ≡ Made e.event e.reply
      → place_of (queue_after xs) e.thread ≡ Free → IsFree (queue_after xs) e.thread
  free_before xs ys e is made free =
      let there : e.thread < next_id (queue_after xs) = known xs ys e is in record {
        alive = elim (alive_until xs e.thread there) [ inl alive ↦ alive | inr has ↦ absurd (not_left xs ys e is made has) ];
        awake = free_asleep (queue_after xs) e.thread there free;
        told = free_told (queue_after xs) e.thread there free;
      }

  turn_at : (xs ys : List entries.Entry) (e : entries.Entry) → H ≡ xs ++ e ∷ ys → IsInTurn (queue_after xs) e.thread e.event
  turn_at xs ys e is =
      let split : IsOrdered (system_of b) (first_shared b) first_places (as_acts xs ++ acted e ∷ as_acts ys) =
      subst (IsOrdered (system_of b) (first_shared b) first_places) (ap as_acts is ∙ as_acts-append xs (e ∷ ys)) ordered in
      let before : IsStarted b.opening xs = prefix_legal b.opening xs (e ∷ ys) (subst (IsStarted b.opening) is legal) in
      in_turn b (queue_after xs) (places_after (system_of b) (first_shared b) first_places (as_acts xs)) e.thread e.event e.reply
      (ordered_at b (first_shared b) first_places (as_acts xs) (acted e) (as_acts ys) split)
      (λ made free. free_before xs ys e is made (sym (stand_after b xs before e.thread) ∙ free))

  turns_from : (xs ys : List entries.Entry) → H ≡ xs ++ ys → IsWellFormedFrom (queue_from (first_queue MOST_THREADS) xs) ys
  turns_from xs [] is = tt
  turns_from xs (e ∷ ys) is = (
    subst (λ (q : WaitQueue). IsInTurn q e.thread e.event) (queue_after-all xs) (turn_at xs ys e is),
    subst (λ (q : WaitQueue). IsWellFormedFrom q ys) (queue_from-append (first_queue MOST_THREADS) xs (e ∷ []))
        (turns_from (xs ++ e ∷ []) ys (is ∙ sym (append_assoc xs (e ∷ []) ys))),
  )

  pub all_turns : IsWellFormed H
  unfolding IsWellFormed
  all_turns = turns_from [] H refl
