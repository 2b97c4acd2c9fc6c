-- A walk that takes an entry.
use Rattle.std.proofs.Common.{◌≡◌, ℕ, ◌<◌, ◌≤◌, false, List, Option, Some, None, refl, sym, subst, ◌⊎◌, inl, inr, arith}
use Rattle.types.specs.declared.event.Event.{Event}
use Rattle.types.specs.declared.event.Event.TheVariants as events
use Rattle.types.specs.declared.event.Question.TheVariants.{Spawn, Leave}
use Rattle.types.specs.declared.event.Reply.{Reply}
use Rattle.types.specs.declared.event.Reply.TheVariants.{Done}
use Rattle.types.specs.declared.event.Answer.{Answer}
use Rattle.types.specs.declared.outcome.Outcome.{Outcome}
use Rattle.types.specs.declared.outcome.Outcome.TheVariants as outcomes
use Rattle.types.specs.declared.outcome.Stop.TheVariants as stops
use Rattle.types.specs.declared.limits.TheConstants.{MOST_THREADS}
use Rattle.shared_memory.specs.Memory.{Memory, reply_of, state_after}
use Rattle.shared_memory.specs.Events.{is_exempt}
use Rattle.shared_memory.specs.WaitQueue.{WaitQueue}
use Rattle.schedule.specs.System.{Want.Calls, Act, Act.Made, Act.Heard, put}
use Rattle.schedule.specs.Histories.{Place.Free, next_places}
use Rattle.schedule.specs.Machine.{thread_full}
use Rattle.interp_machine.specs.Program.{Program}
use Rattle.schedule_threads.specs.Threads.{machine_of}
use Rattle.schedule_threads.proofs.Asking.{wants_spawn}
use Rattle.interp_trait.specs.Turns.{Running, left_of, outcome_of, wants_of, Meaning, IsHere}
use Rattle.replay_rules.specs.Walk.{Settles, FindsFull, CanMake, after_made}
use Rattle.replay_walk.specs.Standing.{Standing, IsStanding, IsSettledOn, IsToldOn, system_at, made_by}
use Rattle.replay_walk.proofs.Events.{IsMade, step}
use Rattle.replay_walk.proofs.Made.{is_free, made_kind}
use Rattle.replay_walk.specs.Walked.{HasTaken, HasThreads, rules_of}
use Rattle.replay_walk.proofs.Ending.{leaving, goes_on}

-- a program of one thread spawns none
pub room_for : (p : Program) (count : ℕ) (t : Running) (arg : ℕ) → HasThreads p count → wants_of p t ≡ Calls (events.Ask (Spawn arg)) → count ≡ MOST_THREADS
room_for p count t arg (inl all) wants = all
room_for p count t arg (inr alone) wants = let some : 0 < p.imported = wants_spawn p t arg wants in let none : p.imported ≡ 0 = alone.0 in absurd (omega arith)

module _ {S : Type 0} (meaning : S → Meaning) where
  -- an answer
  pub took_told : (s : Standing) (limit count n : ℕ) (answer : Answer) (threads : List S) (memory : Memory)
      (queue : WaitQueue) (begun : ℕ) (ends : List (Option Outcome)) → s.memory ≡ memory
      → IsToldOn meaning s n answer threads queue begun ends → HasTaken meaning s limit count n (Heard answer) threads memory queue begun ends
  took_told s limit count n answer threads memory queue begun ends same told = record {
    state = s.state;
    places = put s.places n Free;
    walks = (told.due, (refl, refl));
    standing = subst (λ (m : Memory). IsStanding meaning (record s { memory = m; places = put s.places n Free }) threads queue begun ends) same told.standing;
  }

  module _ (s : Standing) (limit count n : ℕ) (e : Event) (v : Reply) (u : Running) where
    -- an event
    pub took : (can : CanMake (system_at s) (rules_of limit) s.state s.places count n e v u) (threads : List S)
        (memory : Memory) (queue : WaitQueue) (begun : ℕ) (ends : List (Option Outcome))
        → state_after s.memory e ≡ memory → IsStanding meaning (made_by s n e v u) threads queue begun ends
        → HasTaken meaning s limit count n (Made e v) threads memory queue begun ends
    took can threads memory queue begun ends same standing = record {
      state = after_made (system_at s) s.state n e u;
      places = next_places (system_at s) (s.state.shared) s.places n (Made e v);
      walks = (u, can, (refl, refl));
      standing = subst (λ (m : Memory). IsStanding meaning (record (made_by s n e v u) { memory = m }) threads queue begun ends) same standing;
    }

    pub took_as : (can : CanMake (system_at s) (rules_of limit) s.state s.places count n e v u) (act : Act Event Reply Answer) → act ≡ Made e v
        → (held threads : List S) → held ≡ threads
        → (memory : Memory) (queue : WaitQueue) (begun : ℕ) (ends : List (Option Outcome))
        → state_after s.memory e ≡ memory
        → IsStanding meaning (made_by s n e v u) threads queue begun ends
        → HasTaken meaning s limit count n act held memory queue begun ends
    took_as can act is held threads kept memory queue begun ends same standing =
        subst (λ (a : Act Event Reply Answer). HasTaken meaning s limit count n a held memory queue begun ends) (sym is)
        (subst (λ l. HasTaken meaning s limit count n (Made e v) l memory queue begun ends) (sym kept) (took can threads memory queue begun ends same standing))

  module _ (s : Standing) (threads : List S) (queue : WaitQueue) (begun : ℕ) (ends : List (Option Outcome)) (n : ℕ) (t : Running)
      (on : IsSettledOn meaning s threads queue begun ends n t) (settles : Settles (system_at s) (s.state.threads n) t) (limit count : ℕ) where
    -- the thread makes it
    can_make : (e : Event) (v : Reply) (u : Running) → IsMade e → v ≡ reply_of s.memory e
        → Settles (system_at s) (s.state.threads n) u ⊎ FindsFull (system_at s) (rules_of limit) count (s.state.threads n) u
        → wants_of s.program u ≡ Calls e → (is_exempt e ≡ false → count < limit)
        → CanMake (system_at s) (rules_of limit) s.state s.places count n e v u
    can_make e v u made reply ready wants room = record {
      ready = ready;
      wants = wants;
      free = on.free;
      legal = (step meaning s on.before queue begun ends on.standing n e v made (is_free meaning s threads queue begun ends n t on) reply).legal;
      room = room;
    }

    pub can_event : (e : Event) (v : Reply) → is_exempt e ≡ false → v ≡ reply_of s.memory e → wants_of s.program t ≡ Calls e → count < limit
        → CanMake (system_at s) (rules_of limit) s.state s.places count n e v t
    can_event e v plain reply wants room = can_make e v t (made_kind e plain) reply (inl settles) wants (λ h. room)

    -- or it leaves, as one that has ended, or at the full log in place of another event
    pub record Leaves (outcome : Outcome) : Type 0 where
      pub thread : Running
      pub can : CanMake (system_at s) (rules_of limit) s.state s.places count n (events.Ask Leave) Done thread
      pub ended : outcome_of thread ≡ Some outcome
      pub left : left_of thread ≡ left_of t
      pub here : IsHere thread

    pub leaves_ended : (outcome : Outcome) → outcome_of t ≡ Some outcome → Leaves outcome
    leaves_ended outcome ended = record {
      thread = t;
      can = can_make (events.Ask Leave) Done t tt refl (inl settles) (leaving s.program t outcome on.here ended) (λ h. absurd (cc h));
      ended = ended;
      left = refl;
      here = on.here;
    }

    pub leaves_full : (e : Event) → wants_of s.program t ≡ Calls e → outcome_of t ≡ None → limit ≤ count → Leaves (outcomes.Stop stops.RecordFull)
    leaves_full e wants none full =
        let g = goes_on s.program t e on.here none wants in
        let u : Running = thread_full (machine_of s.program) t in
        record {
          thread = u;
          can = can_make (events.Ask Leave) Done u tt refl
              (inr record { settled = t; settles = settles; may = g.may; reached = full; filled = refl }) g.leaves
              (λ h. absurd (cc h));
          ended = g.ended;
          left = g.left;
          here = g.here;
        }
