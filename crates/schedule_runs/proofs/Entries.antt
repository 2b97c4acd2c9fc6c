-- One entry of a legal history in the system of threads over the memory and the wait queue.
use Rattle.std.proofs.Common.{◌<◌, ◌≡◌, ◌≢◌, ℕ, ◌+◌, ◌==◌, ◌&&◌, Bool, true, false, cond, length, Option, Some, None}
use Rattle.std.proofs.Common.{refl, sym, ◌∙◌, ap, subst, inl, inr, arith, get_or-set_other}
use Rattle.std.specs.Prelude.{nat_lt, nat_le}
use Rattle.std.proofs.lemmas.Bool.{cases_eq, cond_both, and_parts, ltb-true, eqb-true}
use Rattle.types.specs.declared.event.Event.{Event}
use Rattle.types.specs.declared.event.Event.TheVariants as events
use Rattle.types.specs.declared.event.Question.{Question}
use Rattle.types.specs.declared.event.Question.TheVariants.{Wait, Notify, Spawn, Leave}
use Rattle.types.specs.declared.event.Answer.{Answer}
use Rattle.types.specs.declared.event.Reply.{Reply}
use Rattle.types.specs.declared.event.Reply.TheVariants as replies
use Rattle.shared_memory.specs.Memory.{Memory, loaded, reply_of, reply_to_question, state_after}
use Rattle.shared_memory.specs.WaitQueue.{WaitQueue, is_asleep, answer_due, next_id, after_answer, IsFree}
use Rattle.shared_memory.specs.History.{queue_step}
use Rattle.shared_memory.specs.Legal.{IsAllowed}
use Rattle.shared_memory.specs.Sound.{IsSound}
use Rattle.shared_memory.proofs.Soundness.{awake_if_due}
use Rattle.shared_memory.proofs.Others.{IsQuiet}
use Rattle.shared_memory.proofs.Turns.{quiet_answer}
use Rattle.schedule.specs.System.{put}
use Rattle.schedule.specs.Histories.{Place, Place.Unstarted, Place.Free, Place.Open, placed, next_shared, next_places, IsLegalEntry}
use Rattle.schedule.specs.Machine.{Thread.Runs}
use Rattle.schedule.proofs.Basics.{put-same, put-other}
use Rattle.schedule_threads.specs.Shared.{is_question, without_dues, act_by}
use Rattle.schedule_runs.specs.Runs.{Start, system_of}
use Rattle.schedule_runs.proofs.Dues.{none_due, without_twice, without_answer, question_same}
use Rattle.schedule_runs.specs.Places.{place_of, place_due}
use Rattle.schedule_runs.proofs.Places.{place_unstarted, place_told, place_free, started_place, given_open}
use Rattle.schedule_runs.proofs.Asked.{Begun, IsSpawn, started, started_is, shared_of, placed_same, question_after}

-- threads stand where the queue has them
abbrev pub StandAt : WaitQueue → (ℕ → Place Answer) → Type 0
StandAt q places = (m : ℕ) → places m ≡ place_of q m

-- who is started
pub is_spawn : (b : Start) (mem : Memory) (q : WaitQueue) (event : Event) (m : ℕ) (t : Begun) → started b mem q event m ≡ Some t → IsSpawn b q event m t
is_spawn b mem q (events.Ask (Spawn arg)) m t is =
    cond_both (nat_lt m (length q.due) && (m == next_id q))
    (Some (Runs (b.spawned m arg) b.fuel)) None (λ w. w ≡ Some t → IsSpawn b q (events.Ask (Spawn arg)) m t)
    (λ both e. let parts : (nat_lt m (length q.due) ≡ true) × ((m == next_id q) ≡ true) = and_parts (nat_lt m (length q.due)) (m == next_id q) both in
    record { arg = arg; event_is = refl; number = eqb-true m (next_id q) parts.1; room = ltb-true m (length q.due) parts.0; thread = cc e })
    (λ isnt e. absurd (cc e)) (sym (started_is b mem q arg m) ∙ is)
is_spawn b mem q event m t is = absurd (cc is)

starts_unstarted : (b : Start) (mem : Memory) (q : WaitQueue) (event : Event) (m : ℕ) (t : Begun) → started b mem q event m ≡ Some t → place_of q m ≡ Unstarted
starts_unstarted b mem q event m t is = let spawn : IsSpawn b q event m t = is_spawn b mem q event m t is in place_unstarted q m (omega (arith, spawn.number))

-- What an entry is in that system: legal, and a step to the memory and the queue after it, and to the places there.
pub record EntryStep (b : Start) (mem : Memory) (q : WaitQueue) (places : ℕ → Place Answer) (n : ℕ) (event : Event) (reply : Reply) : Type 0 where
  pub legal : IsLegalEntry (system_of b) (shared_of mem q) places n (act_by event reply)
  pub shared : next_shared (system_of b) (shared_of mem q) n (act_by event reply) ≡ shared_of (state_after mem event) (queue_step q n event reply)
  pub stand : StandAt (queue_step q n event reply) (next_places (system_of b) (shared_of mem q) places n (act_by event reply))

-- a question, with the reply that the memory gives
record AskStep (b : Start) (mem : Memory) (q : WaitQueue) (places : ℕ → Place Answer) (n : ℕ) (question : Question) (reply of_memory : Reply) : Type 0 where
  gives : (m : ℕ) (a : Answer) → answer_due (queue_step (without_dues q) n (events.Ask question) of_memory) m ≡ Some a
      → (m ≢ n → places m ≡ Open) × (m ≡ n → is_question (events.Ask question) reply ≡ true)
  shared : without_dues (queue_step (without_dues q) n (events.Ask question) of_memory) ≡ without_dues (queue_step q n (events.Ask question) reply)
  stand : (m : ℕ)
      → placed (started b mem q (events.Ask question) m) (answer_due (queue_step (without_dues q) n (events.Ask question) of_memory) m)
      (put (λ (k : ℕ). false) n (is_question (events.Ask question) reply) m) (places m)
      ≡ place_of (queue_step q n (events.Ask question) reply) m

no_again : (m : Memory) (question : Question) → replies.Again ≡ reply_to_question m question → ⊥
no_again m (Wait addr width expected timeout) is =
    cond_both (nat_le (addr + width) (length m.bytes))
    (replies.Value (loaded m addr width)) replies.OutOfBounds (λ (w : Reply). replies.Again ≡ w → ⊥)
    (λ inside e. absurd (cc e)) (λ outside e. absurd (cc e)) is
no_again m (Notify addr count) is =
    cond_both (nat_le (addr + 4) (length m.bytes)) replies.Done replies.OutOfBounds (λ (w : Reply). replies.Again ≡ w
    → ⊥) (λ inside e. absurd (cc e)) (λ outside e. absurd (cc e)) is
no_again m (Spawn arg) is = absurd (cc is)
no_again m Leave is = absurd (cc is)

no_full : (m : Memory) (question : Question) → replies.Full ≡ reply_to_question m question → ⊥
no_full m (Wait addr width expected timeout) is =
    cond_both (nat_le (addr + width) (length m.bytes))
    (replies.Value (loaded m addr width)) replies.OutOfBounds (λ (w : Reply). replies.Full ≡ w → ⊥)
    (λ inside e. absurd (cc e)) (λ outside e. absurd (cc e)) is
no_full m (Notify addr count) is =
    cond_both (nat_le (addr + 4) (length m.bytes)) replies.Done replies.OutOfBounds (λ (w : Reply). replies.Full ≡ w
    → ⊥) (λ inside e. absurd (cc e)) (λ outside e. absurd (cc e)) is
no_full m (Spawn arg) is = absurd (cc is)
no_full m Leave is = absurd (cc is)

module _ (q : WaitQueue) (places : ℕ → Place Answer) (stand : StandAt q places) where
  -- from where all stand, to where they stand by another map
  at_places : (B : Type 0) (o : Option B) (a : Option Answer) (opens : Bool) (m : ℕ) (p : Place Answer)
      → placed o a opens (place_of q m) ≡ p → placed o a opens (places m) ≡ p
  at_places B o a opens m p is = ap (λ w. placed o a opens w) (stand m) ∙ is

  there : (n : ℕ) → n < next_id q → places n ≡ Unstarted → ⊥
  there n known is = started_place q n known (sym (stand n) ∙ is)

module _ (b : Start) (mem : Memory) (q : WaitQueue) (places : ℕ → Place Answer) (n : ℕ) (sound : IsSound q) (free : IsFree q n) (stand : StandAt q places) where
  within_value : (question : Question) (v : ℕ) → AskStep b mem q places n question (replies.Value v) (replies.Value v)
  within_value question v = record {
    gives = λ m a is. ((λ apart. stand m ∙ given_open q n question v sound free m a is apart), (λ e. refl));
    shared = sym (question_same q n question v);
    stand = λ m. at_places q places stand Begun _ _ _ m _ (question_after b mem q n question v sound free m);
  }

  within_done : (question : Question) → AskStep b mem q places n question replies.Done replies.Done
  within_done question = record {
    gives = λ m a is. ((λ apart. stand m ∙ given_open q n question 0 sound free m a is apart), (λ e. refl));
    shared = sym (question_same q n question 0);
    stand = λ m. at_places q places stand Begun _ _ _ m _ (question_after b mem q n question 0 sound free m);
  }

  -- a question out of bounds moves nothing
  outside : (question : Question) → ((m : ℕ) → started b mem q (events.Ask question) m ≡ None)
      → AskStep b mem q places n question replies.OutOfBounds replies.OutOfBounds
  outside question none = record {
    gives = λ m a is. absurd (cc (is, none_due q m));
    shared = without_twice q;
    stand = λ m. at_places q places stand Begun _ _ _ m _
        (ap (λ o. placed o (answer_due (without_dues q) m) (put (λ (k : ℕ). false) n false m) (place_of q m))
        (none m) ∙ placed_same Begun q n m (place_of q m));
  }

  ask_step : (question : Question) (reply : Reply) → reply ≡ reply_to_question mem question → AskStep b mem q places n question reply reply
  ask_step question (replies.Value v) is = within_value question v
  ask_step question replies.Done is = within_done question
  ask_step (Wait addr width expected timeout) replies.OutOfBounds is = outside (Wait addr width expected timeout) (λ m. refl)
  ask_step (Notify addr count) replies.OutOfBounds is = outside (Notify addr count) (λ m. refl)
  ask_step (Spawn arg) replies.OutOfBounds is = absurd (cc is)
  ask_step Leave replies.OutOfBounds is = outside Leave (λ m. refl)
  ask_step question replies.Again is = absurd (no_again mem question is)
  ask_step question replies.Full is = absurd (no_full mem question is)

  question_step : (question : Question) (reply : Reply) → reply ≡ reply_to_question mem question → EntryStep b mem q places n (events.Ask question) reply
  question_step question reply is =
      let step : AskStep b mem q places n question reply (reply_to_question mem question) =
      subst (λ (r : Reply). AskStep b mem q places n question reply r) is (ask_step question reply is) in record {
        legal = (there q places stand n (sound.named n free.alive), is, (λ m t e. stand m ∙ starts_unstarted b mem q (events.Ask question) m t e), step.gives);
        shared = ap (λ (w : WaitQueue). record { memory = mem; queue = w }) step.shared;
        stand = step.stand;
      }

-- an answer taken
heard_stand : (q : WaitQueue) (places : ℕ → Place Answer) (n : ℕ) (a : Answer) → IsSound q → answer_due q n ≡ Some a
    → StandAt q places → StandAt (after_answer q n) (put places n Free)
unfolding after_answer place_of
heard_stand q places n a sound due stand m =
    elim (cases_eq m n) [
      | inl e ↦ subst (λ (k : ℕ). put places n Free k ≡ place_of (after_answer q n) k) (sym e) (put-same places n Free ∙ sym taker)
      | inr apart ↦ put-other places n Free m apart
          ∙ (stand m ∙ sym (ap (λ o. cond (nat_lt m (next_id q)) (cond (is_asleep q m) Open (place_due o)) Unstarted)
          (get_or-set_other q.due n m None None apart)))
    ]
  where
    taker : place_of (after_answer q n) n ≡ Free
    taker =
        let quiet : IsQuiet (after_answer q n) n = quiet_answer q n a due sound in
        place_free (after_answer q n) n (sound.owed n a due) quiet.awake quiet.told

heard_step : (b : Start) (mem : Memory) (q : WaitQueue) (places : ℕ → Place Answer) (n : ℕ) (a : Answer)
    (reply : Reply) → IsSound q → answer_due q n ≡ Some a → StandAt q places
    → EntryStep b mem q places n (events.Told a) reply
unfolding after_answer
heard_step b mem q places n a reply sound due stand = record {
  legal = stand n ∙ place_told q n a (sound.owed n a due) (awake_if_due q sound n a due) due;
  shared = ap (λ (w : WaitQueue). record { memory = mem; queue = w }) (sym (without_answer q n));
  stand = heard_stand q places n a sound due stand;
}

-- any entry
pub entry_step : (b : Start) (mem : Memory) (q : WaitQueue) (places : ℕ → Place Answer) (n : ℕ) (event : Event) (reply : Reply) → IsSound q → StandAt q places
    → reply ≡ reply_of mem event → IsAllowed q n event → n < next_id q → EntryStep b mem q places n event reply
entry_step b mem q places n (events.Ask question) reply sound stand is allowed known = question_step b mem q places n sound allowed stand question reply is
entry_step b mem q places n (events.Told a) reply sound stand is allowed known = heard_step b mem q places n a reply sound allowed stand
entry_step b mem q places n event reply sound stand is allowed known = record {
  legal = (there q places stand n known, is, (λ m t e. absurd (cc e)), (λ m a e. absurd (cc (e, none_due q m))));
  shared = ap (λ (w : WaitQueue). record { memory = state_after mem event; queue = w }) (without_twice q);
  stand = λ m. at_places q places stand Begun None _ _ m _ (placed_same Begun q n m (place_of q m));
}
