-- Where threads stand after an event.
use Rattle.std.proofs.Common.{◌≡◌, ℕ, Bool, true, false, List, Option, Some, None, refl, sym, ap, subst}
use Rattle.types.specs.declared.value.Value.{Value}
use Rattle.types.specs.declared.event.Event.{Event}
use Rattle.types.specs.declared.event.Reply.{Reply}
use Rattle.types.specs.declared.event.Answer.{Answer}
use Rattle.types.specs.declared.outcome.Outcome.{Outcome}
use Rattle.schedule.specs.System.{Want.Awaits}
use Rattle.schedule.specs.Scheduled.{hears_any, or_started}
use Rattle.schedule.specs.Histories.{Place, Place.Unstarted, Place.Free, Place.Open, Place.Due, placed}
use Rattle.schedule.specs.Machine.{Thread.Leaves, thread_takes, thread_hears}
use Rattle.interp_machine.specs.Program.{Program}
use Rattle.interp_machine.specs.Config.{Config}
use Rattle.schedule_threads.specs.Shared.{over_memory_and_queue}
use Rattle.schedule_threads.specs.Threads.{machine_of}
use Rattle.interp_trait.specs.Turns.{Running, outcome_of, wants_of, left_of, Meaning, IsHere, spawned_in}
use Rattle.replay_walk.specs.Standing.{RunsAt, WaitsAt, StandsAt}

module _ {S : Type 0} (meaning : S → Meaning) where
  -- a thread's slot after an event: a thread that starts runs there, and otherwise it's the same
  abbrev pub SlotGoes : Option S → Option S → Option Running → Type 0
  SlotGoes old new None = new ≡ old
  SlotGoes old new (Some s) = RunsAt meaning new s

  module _ (p : Program) (worker : List Value → Config) (budget : ℕ) where
    abbrev At : Place Answer → Running → Option S → Option Outcome → Bool → Type 0
    At place t slot gone alive = StandsAt meaning p worker place t slot gone alive

    abbrev heard : Running → Option Answer → Running
    heard t gv = hears_any (over_memory_and_queue (machine_of p) (spawned_in worker) budget) t gv

    still_at : (place : Place Answer) (t : Running) (slot : Option S) (gone : Option Outcome) (alive alive' : Bool) → (alive ≡ true → alive' ≡ true)
        → At place t slot gone alive → At place t slot gone alive'
    still_at Unstarted t slot None alive alive' on at = at
    still_at Free t slot None alive alive' on at = (at.0, on at.1)
    still_at Open t slot None alive alive' on at = (at.0, on at.1)
    still_at (Due a) t slot None alive alive' on at = (at.0, on at.1)
    still_at Unstarted t slot (Some o) alive alive' on at = at
    still_at Free t slot (Some o) alive alive' on at = at
    still_at Open t slot (Some o) alive alive' on at = at
    still_at (Due a) t slot (Some o) alive alive' on at = at

    starts_at : (t s : Running) (gv : Option Answer) (slot slot' : Option S) (gone : Option Outcome)
        (alive alive' : Bool) → RunsAt meaning slot' s → alive' ≡ true
        → At Unstarted t slot gone alive → At Free s slot' gone alive'
    starts_at t s gv slot slot' None alive alive' runs is at = (runs, is)
    starts_at t s gv slot slot' (Some o) alive alive' runs is at = absurd at

    told_at : (t : Running) (a : Answer) (slot : Option S) (gone : Option Outcome) (alive alive' : Bool) → (alive ≡ true → alive' ≡ true)
        → At Open t slot gone alive → At (Due a) (thread_hears (machine_of p) t a) slot gone alive'
    told_at t a slot None alive alive' on at = (record { awaiting = t; waits = at.0; told = refl }, on at.1)
    told_at t a slot (Some o) alive alive' on at = (at.0, ap (λ x. thread_hears (machine_of p) x a) at.1, at.2)

    pub others_at : (place : Place Answer) (t : Running) (slot slot' : Option S) (gone : Option Outcome)
        (alive alive' : Bool) (st : Option Running) (gv : Option Answer)
        → ((s : Running) → st ≡ Some s → place ≡ Unstarted) → ((a : Answer) → gv ≡ Some a → place ≡ Open)
        → (alive ≡ true → alive' ≡ true) → ((s : Running) → st ≡ Some s → alive' ≡ true) → SlotGoes slot slot' st
        → At place t slot gone alive → At (placed st gv false place) (or_started st (heard t gv)) slot' gone alive'
    others_at place t slot slot' gone alive alive' (Some s) gv hs hg on born goes at =
        starts_at t s gv slot slot' gone alive alive' goes (born s refl) (subst (λ x. At x t slot gone alive) (hs s refl) at)
    others_at place t slot slot' gone alive alive' None (Some a) hs hg on born goes at =
        subst (λ x. At (Due a) (thread_hears (machine_of p) t a) x gone alive') (sym goes)
        (told_at t a slot gone alive alive' on (subst (λ x. At x t slot gone alive) (hg a refl) at))
    others_at place t slot slot' gone alive alive' None None hs hg on born goes at =
        subst (λ x. At place t x gone alive') (sym goes) (still_at place t slot gone alive alive' on at)

    -- a thread that goes on by an event
    pub record GoesOn (e : Event) (v : Reply) (opens : Bool) (t : Running) : Type 0 where
      pub here : IsHere (thread_takes (machine_of p) t v)
      pub outcome : outcome_of (thread_takes (machine_of p) t v) ≡ None
      pub waits : opens ≡ true → wants_of p (thread_takes (machine_of p) t v) ≡ Awaits

    waiting : (slot : Option S) (y : S) (t : Running) → slot ≡ Some y → (meaning y).stands t → IsHere t
        → outcome_of t ≡ None → wants_of p t ≡ Awaits → WaitsAt meaning p slot t
    waiting slot y t at standing here outcome waits = record { thread = y; at = at; standing = standing; here = here; outcome = outcome; waits = waits }

    pub here_at : (taken : Running) (slot : Option S) (y : S) (alive : Bool) (st : Option Running) (gv : Option Answer)
        (opens : Bool) → ((s : Running) → st ≡ Some s → ⊥)
        → ((a : Answer) → gv ≡ Some a → opens ≡ true)
        → slot ≡ Some y → (meaning y).stands taken → IsHere taken → (opens ≡ true → outcome_of taken ≡ None)
        → (opens ≡ true → wants_of p taken ≡ Awaits) → alive ≡ true
        → At (placed st gv opens Free) (or_started st (heard taken gv)) slot None alive
    here_at taken slot y alive (Some s) gv opens hs hg at standing here outcome waits is = absurd (hs s refl)
    here_at taken slot y alive None (Some a) opens hs hg at standing here outcome waits is =
        (record { awaiting = taken; waits = waiting slot y taken at standing here (outcome (hg a refl)) (waits (hg a refl)); told = refl }, is)
    here_at taken slot y alive None None true hs hg at standing here outcome waits is = (waiting slot y taken at standing here (outcome refl) (waits refl), is)
    here_at taken slot y alive None None false hs hg at standing here outcome waits is = (record { thread = y; at = at; standing = standing; here = here }, is)

    -- a thread that asks to leave
    pub leaves_at : (taken t : Running) (o : Outcome) (slot : Option S) (y : S) (alive : Bool) (st : Option Running)
        (gv : Option Answer) → ((s : Running) → st ≡ Some s → ⊥) → slot ≡ Some y
        → (meaning y).stands t → taken ≡ Leaves o (left_of t)
        → At (placed st gv true Free) (or_started st (heard taken gv)) slot (Some o) alive
    leaves_at taken t o slot y alive (Some s) gv hs at standing is = absurd (hs s refl)
    leaves_at taken t o slot y alive None (Some a) hs at standing is =
        (left_of t, ap (λ x. thread_hears (machine_of p) x a) is, record { thread = y; at = at; last = t; standing = standing; same = refl })
    leaves_at taken t o slot y alive None None hs at standing is = (left_of t, is, record { thread = y; at = at; last = t; standing = standing; same = refl })
