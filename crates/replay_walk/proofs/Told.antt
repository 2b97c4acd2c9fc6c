-- Taking an answer that was due.
use Rattle.std.specs.Prelude.{nat_lt}
use Rattle.std.proofs.Common.{◌≡◌, ◌≢◌, ℕ, ◌<◌, ◌≤◌, Bool, true, false, cond, List, length, Option, Some, None, refl}
use Rattle.std.proofs.Common.{sym, ◌∙◌, ap, subst, inl, inr, arith, get_or, slice_get, slice_set}
use Rattle.std.proofs.lemmas.Option.{slice_get-get_or, slice_get_within, slice_get_past}
use Rattle.std.proofs.lemmas.List.{get_or-set_same, get_or-set_other}
use Rattle.std.proofs.Common.{length-set}
use Rattle.std.proofs.lemmas.Bool.{cases_lt}
use Rattle.types.specs.declared.event.Event.TheVariants as events
use Rattle.types.specs.declared.event.Answer.{Answer}
use Rattle.types.specs.declared.event.Reply.TheVariants as replies
use Rattle.types.specs.declared.outcome.Outcome.{Outcome}
use Rattle.shared_memory.specs.WaitQueue.{WaitQueue, is_alive, is_asleep, answer_due, next_id, after_answer}
use Rattle.shared_memory.proofs.Soundness.{IsSound-step, awake_if_due}
use Rattle.schedule.specs.System.{put}
use Rattle.schedule.specs.Histories.{Place.Unstarted, Place.Free, Place.Open, Place.Due}
use Rattle.schedule.specs.Machine.{Thread.Absent, Thread.Runs, Thread.Over, Thread.Leaves, Thread.Left, thread_hears}
use Rattle.schedule.proofs.Basics.{at_each, put-same, put-other}
use Rattle.interp_machine.specs.Program.{Program}
use Rattle.schedule_threads.specs.Threads.{machine_of}
use Rattle.schedule_runs.specs.Runs.{Start}
use Rattle.schedule_runs.specs.Places.{place_of, place_due}
use Rattle.schedule_runs.proofs.Dues.{without_answer}
use Rattle.schedule_runs.proofs.Places.{place_told}
use Rattle.schedule_runs.proofs.Entries.{EntryStep, entry_step}
use Rattle.interp_trait.specs.Turns.{Running, outcome_of, wants_of, Meaning, IsHere, spawned_in}
use Rattle.interp_trait.specs.declared.turn.Turn.{Turn}
use Rattle.interp_trait.specs.declared.turn.Given.TheVariants as given
use Rattle.schedule.specs.System.{Want.Awaits}
use Rattle.replay_walk.specs.Standing.{StandsAt, Standing, IsStanding, IsToldOn, IsTurnedAt}

-- elements of a list of which one was replaced
pub slice_get-set_same : {X : Type 0} (xs : List X) (n : ℕ) (y : X) → n < length xs → slice_get (slice_set xs n y) n ≡ Some y
slice_get-set_same xs n y lt =
    let lt2 : n < length (slice_set xs n y) = omega (arith, length-set xs n y) in
    slice_get-get_or (slice_set xs n y) n y lt2 ∙ ap (λ z. Some z) (get_or-set_same xs n y y lt)

pub slice_get-set_other : {X : Type 0} (xs : List X) (n m : ℕ) (y : X) → m ≢ n → slice_get (slice_set xs n y) m ≡ slice_get xs m
slice_get-set_other xs n m y apart =
    elim (cases_lt m (length xs)) [
      | inl lt ↦ (let lt2 : m < length (slice_set xs n y) = omega (arith, length-set xs n y) in
          slice_get-get_or (slice_set xs n y) m y lt2 ∙ (ap (λ z. Some z) (get_or-set_other xs n m y y apart) ∙ sym (slice_get-get_or xs m y lt)))
      | inr le ↦ (let le2 : length (slice_set xs n y) ≤ m = omega (arith, length-set xs n y) in
          slice_get_past (slice_set xs n y) m le2 ∙ sym (slice_get_past xs m le))
    ]

-- who hears runs on
pub here_told : (p : Program) (t : Running) (a : Answer) → IsHere t → outcome_of t ≡ None → IsHere (thread_hears (machine_of p) t a)
here_told p Absent a h o = absurd h
here_told p (Runs c left) a h o = tt
here_told p (Over x left) a h o = absurd (cc o)
here_told p (Leaves x left) a h o = absurd h
here_told p (Left x left) a h o = absurd h

due_place : (q : WaitQueue) (n : ℕ) (a : Answer) → place_of q n ≡ Due a → answer_due q n ≡ Some a
unfolding place_of
due_place q n a h = go (nat_lt n (next_id q)) (is_asleep q n) (answer_due q n) h
  where
    go : (known asleep : Bool) (o : Option Answer) → cond known (cond asleep Open (place_due o)) Unstarted ≡ Due a → o ≡ Some a
    go false asleep o e = absurd (cc e)
    go true true o e = absurd (cc e)
    go true false None e = absurd (cc e)
    go true false (Some x) e = cc e

module _ {S : Type 0} (meaning : S → Meaning) where
  module _ (s : Standing) (threads : List S) (queue : WaitQueue) (begun : ℕ) (ends : List (Option Outcome)) (st : IsStanding meaning s threads queue begun ends)
      (n : ℕ) (answer : Answer) where
    start : Start
    start = record { program = s.program; main = spawned_in s.worker 0 0; spawned = spawned_in s.worker; fuel = s.budget; opening = s.memory }

    module _ (due : answer_due queue n ≡ Some answer) where
      pub is_due : s.places n ≡ Due answer
      is_due = st.places n ∙ place_told queue n answer (st.sound.owed n answer due) (awake_if_due queue st.sound n answer due) due

      step : EntryStep start s.memory queue s.places n (events.Told answer) replies.Done
      step = entry_step start s.memory queue s.places n (events.Told answer) replies.Done st.sound st.places refl due (st.sound.owed n answer due)

      pub told_on : (threads' : List S) → ((m : ℕ) → m ≢ n → slice_get threads' m ≡ slice_get threads m)
          → ((m : ℕ) (x : S) → slice_get threads' m ≡ Some x → ((meaning x).program ≡ s.program) × ((meaning x).fuel ≡ s.budget))
          → StandsAt meaning s.program s.worker Free (s.state.threads n) (slice_get threads' n) (get_or ends n None) (is_alive queue n)
          → IsToldOn meaning s n answer threads' (after_answer queue n) begun ends
      unfolding after_answer
      told_on threads' same alike here = record {
        due = is_due;
        standing = record {
          shared = st.shared ∙ ap (λ (w : WaitQueue). record { memory = s.memory; queue = w }) (sym (without_answer queue n));
          places = step.stand;
          sound = IsSound-step queue n (events.Told answer) replies.Done due st.sound;
          started = st.started;
          slots = st.slots;
          alike = alike;
          each = at_each n (λ m. StandsAt meaning s.program s.worker (put s.places n Free m) (s.state.threads m)
              (slice_get threads' m) (get_or ends m None) (is_alive queue m))
              (subst (λ p. StandsAt meaning s.program s.worker p (s.state.threads n) (slice_get threads' n)
              (get_or ends n None) (is_alive queue n)) (sym (put-same s.places n Free)) here)
              (λ m h. subst (λ p. StandsAt meaning s.program s.worker p (s.state.threads m) (slice_get threads' m)
              (get_or ends m None) (is_alive queue m)) (sym (put-other s.places n Free m h))
              (subst (λ slot. StandsAt meaning s.program s.worker (s.places m)
              (s.state.threads m) slot (get_or ends m None) (is_alive queue m)) (sym (same m h)) (st.each m)));
        };
      }

      -- how it stands before
      pub before : (end : Option Outcome) → get_or ends n None ≡ end
          → StandsAt meaning s.program s.worker (Due answer) (s.state.threads n) (slice_get threads n) end (is_alive queue n)
      before end is =
          subst (λ (o : Option Outcome). StandsAt meaning s.program s.worker (Due answer) (s.state.threads n) (slice_get threads n) o (is_alive queue n)) is
          (subst (λ p. StandsAt meaning s.program s.worker p (s.state.threads n) (slice_get threads n)
          (get_or ends n None) (is_alive queue n)) is_due (st.each n))

      -- a thread that has left stays as it is
      pub gone_on : (outcome : Outcome) → get_or ends n None ≡ Some outcome → IsToldOn meaning s n answer threads (after_answer queue n) begun ends
      gone_on outcome is =
          told_on threads (λ m h. refl) st.alike
          (subst (λ (o : Option Outcome). StandsAt meaning s.program s.worker Free (s.state.threads n)
          (slice_get threads n) o (is_alive queue n)) (sym is) (before (Some outcome) is))

      -- another one hears it
      pub hears_on : (is : get_or ends n None ≡ None) (y : S) → (meaning y).program ≡ s.program → (meaning y).fuel ≡ s.budget
          → (meaning y).stands (thread_hears (machine_of s.program) (before None is).0.awaiting answer)
          → IsToldOn meaning s n answer (slice_set threads n y) (after_answer queue n) begun ends
      hears_on is y same_program same_fuel standing =
          let b = before None is in
          let within : n < length threads = slice_get_within threads n (b.0).waits.thread (b.0).waits.at in
          told_on (slice_set threads n y) (λ m h. slice_get-set_other threads n m y h)
          (at_each n (λ m. (x : S) → slice_get (slice_set threads n y) m ≡ Some x → ((meaning x).program ≡ s.program) × ((meaning x).fuel ≡ s.budget))
          (λ x at. let e : y ≡ x = cc (at, slice_get-set_same threads n y within) in
          (sym (ap (λ z. (meaning z).program) e) ∙ same_program, sym (ap (λ z. (meaning z).fuel) e) ∙ same_fuel))
          (λ m h x at. st.alike m x (sym (slice_get-set_other threads n m y h) ∙ at)))
          (subst (λ (o : Option Outcome). StandsAt meaning s.program s.worker Free (s.state.threads n)
          (slice_get (slice_set threads n y) n) o (is_alive queue n)) (sym is) (
            record {
              thread = y;
              at = slice_get-set_same threads n y within;
              standing = subst (λ t. (meaning y).stands t) (sym (b.0).told) standing;
              here = subst IsHere (sym (b.0).told) (here_told s.program (b.0).awaiting answer (b.0).waits.here (b.0).waits.outcome);
            },
            b.1,
          ))

    -- no other answer is due
    pub due_at : s.places n ≡ Due answer → answer_due queue n ≡ Some answer
    due_at h = due_place queue n answer (sym (st.places n) ∙ h)

    -- what it is given is right for it, and what the turn leaves
    pub awaits_at : answer_due queue n ≡ Some answer → get_or ends n None ≡ None → (x : S) → slice_get threads n ≡ Some x
        → (t : Running) × (meaning x).stands t × (outcome_of t ≡ None) × (wants_of (meaning x).program t ≡ Awaits)
    awaits_at due is x at =
        let b = before due None is in
        let w = (b.0).waits in
        let same : w.thread ≡ x = cc (at, w.at) in (
          (b.0).awaiting,
          subst (λ y. (meaning y).stands (b.0).awaiting) same w.standing,
          w.outcome,
          subst (λ (p : Program). wants_of p (b.0).awaiting ≡ Awaits) (sym (st.alike n x at).0) w.waits,
        )

    pub within_at : answer_due queue n ≡ Some answer → get_or ends n None ≡ None → n < length threads
    within_at due is = let b = before due None is in slice_get_within threads n (b.0).waits.thread (b.0).waits.at

    pub turned_on : answer_due queue n ≡ Some answer → get_or ends n None ≡ None → (turn : Turn) (threads' : List S)
        → ((x : S) → slice_get threads n ≡ Some x → IsTurnedAt meaning x (given.Told answer) turn threads n threads')
        → IsToldOn meaning s n answer threads' (after_answer queue n) begun ends
    turned_on due is turn threads' turns =
        let b = before due None is in
        let w = (b.0).waits in
        let r = turns w.thread w.at in
        let alike = st.alike n w.thread w.at in
        let given_right : wants_of (meaning w.thread).program (b.0).awaiting ≡ Awaits =
        subst (λ (p : Program). wants_of p (b.0).awaiting ≡ Awaits) (sym alike.0) w.waits in
        let now = r.turned (b.0).awaiting w.standing (w.outcome, given_right) in
        subst (λ l. IsToldOn meaning s n answer l (after_answer queue n) begun ends) (sym (r.replaced).list)
        (hears_on due is (r.replaced).now ((r.replaced).same_program ∙ alike.0) ((r.replaced).same_fuel ∙ alike.1)
        (subst (λ (p : Program). (meaning (r.replaced).now).stands (thread_hears (machine_of p) (b.0).awaiting answer)) alike.0 now.after))
