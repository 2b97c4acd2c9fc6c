-- How a settled thread goes on.
use Rattle.std.proofs.Common.{◌≡◌, ℕ, ◌<◌, ◌≤◌, subst}
use Rattle.types.specs.declared.event.Event.{Event}
use Rattle.types.specs.declared.event.Reply.{Reply}
use Rattle.types.specs.declared.outcome.Outcome.{Outcome}
use Rattle.types.specs.declared.outcome.Outcome.TheVariants as outcomes
use Rattle.types.specs.declared.outcome.Stop.TheVariants as stops
use Rattle.shared_memory.specs.Memory.{reply_of}
use Rattle.schedule.specs.System.{Act.Made}
use Rattle.schedule_threads.specs.Shared.{act_by}
use Rattle.interp_trait.specs.Turns.{Meaning}
use Rattle.interp_trait.specs.declared.turn.Turn.{Turn}
use Rattle.interp_trait.specs.declared.turn.Turn.TheVariants as turns
use Rattle.replay_rules.specs.Walk.{CanMake}
use Rattle.replay_walk.specs.Standing.{Standing, Says, system_at}
use Rattle.replay_walk.specs.Walked.{rules_of}
use Rattle.replay_walk.specs.declared.walk.Walk.{Walk}
use Rattle.replay_walk.proofs.Acts.{event_act}
use Rattle.replay_walk.proofs.Ending.{goes_on}
use Rattle.replay_walk.proofs.Taken.{Leaves, leaves_ended, leaves_full, can_event}
use Rattle.search_scheduled.specs.Settled.{SettlesOn, MayLeave, WantsOn}

module _ {S : Type 0} (meaning : S → Meaning) (s : Standing) (n : ℕ) (turn : Turn) (w : Walk S) (d : SettlesOn meaning s n turn w) where
  module _ (limit count : ℕ) where
    may_leave : (outcome : Outcome)
        → Leaves meaning s w.threads.items w.stage.queue w.stage.started w.stage.ends n d.thread d.on d.settles limit count outcome
        → MayLeave meaning s limit count n outcome w
    may_leave outcome l =
        record { settled = d.thread; on = d.on; thread = l.thread; can = l.can; ended = l.ended; left = l.left; here = l.here }

    -- it has ended,
    pub ended_leaves : (outcome : Outcome) → turn ≡ turns.Ended outcome → MayLeave meaning s limit count n outcome w
    ended_leaves outcome is =
        may_leave outcome (leaves_ended meaning s w.threads.items w.stage.queue w.stage.started w.stage.ends n d.thread d.on d.settles limit count
        outcome (subst (λ (t : Turn). Says s.program d.thread t) is d.says))

    -- or it finds the log full,
    pub full_leaves : (e : Event) → turn ≡ turns.Wants e → limit ≤ count → MayLeave meaning s limit count n (outcomes.Stop stops.RecordFull) w
    full_leaves e is full =
        let says = subst (λ (t : Turn). Says s.program d.thread t) is d.says in
        may_leave (outcomes.Stop stops.RecordFull)
        (leaves_full meaning s w.threads.items w.stage.queue w.stage.started w.stage.ends n d.thread d.on d.settles limit count
        e says.1 says.0 full)

  -- or it makes the event that it wants.
  pub wants_on : (e : Event) → turn ≡ turns.Wants e → s.memory ≡ w.memory → WantsOn meaning s n e d.thread w
  wants_on e is same =
      let says = subst (λ (t : Turn). Says s.program d.thread t) is d.says in
      record { on = d.on; memory = same; none = says.0; wants = says.1 }

  pub can_event_on : (e : Event) → turn ≡ turns.Wants e → (limit count : ℕ) → count < limit → (v : Reply) → v ≡ reply_of s.memory e
      → CanMake (system_at s) (rules_of limit) s.state s.places count n e v d.thread
  can_event_on e is limit count room v reply =
      let says = subst (λ (t : Turn). Says s.program d.thread t) is d.says in
      can_event meaning s w.threads.items w.stage.queue w.stage.started w.stage.ends n d.thread d.on d.settles limit count e v
      (goes_on s.program d.thread e d.on.here says.0 says.1).plain reply says.1 room

  pub event_act_on : (e : Event) → turn ≡ turns.Wants e → (v : Reply) → act_by e v ≡ Made e v
  event_act_on e is v =
      let says = subst (λ (t : Turn). Says s.program d.thread t) is d.says in
      event_act e v (goes_on s.program d.thread e d.on.here says.0 says.1).plain
