-- Entries that a walk can't take.
use Rattle.std.proofs.Common.{◌≡◌, ℕ, zero, suc, ◌<◌, ◌≤◌, true, false, not, List, Option, refl, sym, ◌∙◌, ap, subst, ◌⊎◌, inl, inr, arith}
use Rattle.types.specs.declared.event.Event.{Event}
use Rattle.types.specs.declared.event.Event.TheVariants as events
use Rattle.types.specs.declared.event.Question.TheVariants.{Leave}
use Rattle.types.specs.declared.event.Reply.{Reply}
use Rattle.types.specs.declared.event.Reply.TheVariants.{Done}
use Rattle.types.specs.declared.outcome.Outcome.{Outcome}
use Rattle.shared_memory.specs.Memory.{reply_of}
use Rattle.shared_memory.specs.Events.{is_exempt}
use Rattle.shared_memory.specs.WaitQueue.{WaitQueue}
use Rattle.schedule.specs.System.{Want, Want.Calls, Act.Made}
use Rattle.schedule.specs.ThreadRun.{Laws}
use Rattle.schedule.specs.Histories.{Place.Free}
use Rattle.schedule.specs.Machine.{Thread.Left}
use Rattle.schedule.proofs.Budgets.{thread_calls, full_leaves}
use Rattle.interp_machine.specs.Program.{Program}
use Rattle.interp_machine.specs.State.{State}
use Rattle.schedule_threads.specs.Shared.{Shared}
use Rattle.schedule_threads.specs.Threads.{machine_of}
use Rattle.schedule_threads.proofs.Asking.{machine_laws}
use Rattle.schedule_threads.proofs.Threads.{system_laws}
use Rattle.interp_trait.specs.Turns.{Running, wants_of, Meaning, IsHere, spawned_in}
use Rattle.interp_trait.specs.declared.turn.Turn.{Turn}
use Rattle.interp_trait.specs.declared.turn.Turn.TheVariants as turns
use Rattle.replay_rules.specs.Walk.{ComesTo, Settles, FindsFull}
use Rattle.replay_rules.proofs.Walking.{settles_once}
use Rattle.replay_walk.specs.Standing.{Says, Standing, IsStanding, IsGoing, HasGone, system_at}
use Rattle.replay_walk.specs.Walked.{IsRefused, rules_of}
use Rattle.replay_walk.proofs.Ending.{leaving, goes_on}
use Rattle.replay_walk.proofs.Settled.{IsSettled}

-- the laws of the system
pub laws_at : (s : Standing) → Laws (system_at s)
laws_at s = system_laws State (machine_of s.program) (spawned_in s.worker) s.budget (machine_laws s.program)

-- who has left makes no event
module _ (s : Standing) where
  stays_left : (turns : ℕ) (o : Outcome) (left : ℕ) (t : Running) → ComesTo (system_at s) turns (Left o left) t → Left o left ≡ t
  stays_left zero o left t comes = comes
  stays_left (suc turns) o left t comes = absurd (cc comes.0)

  left_none : (limit count : ℕ) (o : Outcome) (left : ℕ) (t : Running) (e : Event)
      → Settles (system_at s) (Left o left) t ⊎ FindsFull (system_at s) (rules_of limit) count (Left o left) t
      → wants_of s.program t ≡ Calls e → ⊥
  left_none limit count o left t e (inl a) wants =
      let same : Left o left ≡ t = stays_left a.turns o left t a.comes in
      let own : wants_of s.program (Left o left) ≡ Calls e = ap (wants_of s.program) same ∙ wants in cc own
  left_none limit count o left t e (inr a) wants =
      let same : Left o left ≡ a.settled = stays_left (a.settles).turns o left a.settled (a.settles).comes in
      let own : (system_at s).may_fill (Left o left) ≡ true = ap (system_at s).may_fill same ∙ a.may in cc own

-- what a thread that says what it wants can do
no_leave : (p : Program) (t : Running) (turn : Turn) → IsHere t → Says p t turn
    → ((o : Outcome) → turn ≡ turns.Ended o → ⊥) → wants_of p t ≡ Calls (events.Ask Leave) → ⊥
no_leave p t turns.Moved here says other wants = says
no_leave p t (turns.Wants e) here says other wants =
    let plain : is_exempt e ≡ false = (goes_on p t e here says.0 says.1).plain in
    let same : e ≡ events.Ask Leave = cc (says.1, wants) in cc (plain, ap is_exempt same)
no_leave p t turns.Awaits here says other wants = cc (says.1, wants)
no_leave p t (turns.Ended o) here says other wants = other o refl

wants_this : (p : Program) (t : Running) (turn : Turn) (e : Event) → IsHere t → Says p t turn → is_exempt e ≡ false
    → wants_of p t ≡ Calls e → turn ≡ turns.Wants e
wants_this p t turns.Moved e here says plain wants = absurd says
wants_this p t (turns.Wants x) e here says plain wants = let same : x ≡ e = cc (says.1, wants) in ap (λ y. turns.Wants y) same
wants_this p t turns.Awaits e here says plain wants = absurd (cc (says.1, wants))
wants_this p t (turns.Ended o) e here says plain wants =
    let leave : wants_of p t ≡ Calls (events.Ask Leave) = leaving p t o here says in
    let same : e ≡ events.Ask Leave = cc (leave, wants) in absurd (cc (plain, ap is_exempt same))

fills_wanted : (s : Standing) (t : Running) (turn : Turn) → IsHere t → Says s.program t turn
    → (system_at s).may_fill t ≡ true → (e : Event) × (turn ≡ turns.Wants e)
fills_wanted s t turns.Moved here says may = absurd says
fills_wanted s t (turns.Wants e) here says may = (e, refl)
fills_wanted s t turns.Awaits here says may = let c = (laws_at s).fill_calls t may in absurd (cc (says.1, c.1))
fills_wanted s t (turns.Ended o) here says may =
    let c = thread_calls (machine_of s.program) (machine_laws s.program) (λ e. not (is_exempt e)) t may in
    let same : events.Ask Leave ≡ c.0 = cc (leaving s.program t o here says, c.1) in absurd (cc (c.2, same))

module _ {S : Type 0} (meaning : S → Meaning) where
  module _ (s : Standing) (threads : List S) (queue : WaitQueue) (begun : ℕ) (ends : List (Option Outcome)) (st : IsStanding meaning s threads queue begun ends)
      (n limit count : ℕ) where
    -- it isn't there, or has left
    pub refused_gone : (e : Event) (v : Reply) → (s.places n ≡ Free → HasGone (s.state.threads n)) → IsRefused s limit count n (Made e v)
    refused_gone e v gone can =
        let left = gone (can.1).free in
        left_none s limit count left.outcome left.left can.0 e
        (subst (λ (x : Running). Settles (system_at s) x can.0 ⊎ FindsFull (system_at s) (rules_of limit) count x can.0) left.gone (can.1).ready) (can.1).wants

    -- the log has no room for it
    pub refused_full : (e : Event) (v : Reply) → is_exempt e ≡ false → limit ≤ count → IsRefused s limit count n (Made e v)
    refused_full e v plain full can = let room : count < limit = (can.1).room plain in omega arith

    -- the memory gives another reply
    pub refused_reply : (e : Event) (v : Reply) → (v ≡ reply_of s.memory e → ⊥) → IsRefused s limit count n (Made e v)
    refused_reply e v other can = other ((can.1).legal.1 ∙ ap (λ (x : Shared). reply_of x.memory e) st.shared)

    module _ (going : IsGoing meaning s threads queue ends n) (turn : Turn) (after : List S)
        (d : IsSettled meaning s threads queue begun ends st n going turn after) where
      settled_is : (t : Running) → Settles (system_at s) (s.state.threads n) t → t ≡ d.thread
      settled_is t a = settles_once (system_at s) (rules_of limit) (laws_at s) (s.state.threads n) t d.thread a d.settles

      -- a leave of a thread that hasn't ended, while the log has room
      pub refused_leave : ((o : Outcome) → turn ≡ turns.Ended o → ⊥)
          → ((e : Event) → turn ≡ turns.Wants e → count < limit)
          → IsRefused s limit count n (Made (events.Ask Leave) Done)
      refused_leave other room can =
          elim (can.1).ready [
            | inl a ↦ no_leave s.program d.thread turn (d.on).here d.says other (ap (wants_of s.program) (sym (settled_is can.0 a)) ∙ (can.1).wants)
            | inr a ↦ (let w = fills_wanted s d.thread turn (d.on).here d.says (ap (system_at s).may_fill (sym (settled_is a.settled a.settles)) ∙ a.may) in
                let full : limit ≤ count = a.reached in let some : count < limit = room w.0 w.1 in let no : ⊥ = omega arith in no)
          ]

      -- another event than the one that it wants
      pub refused_other : (e : Event) (v : Reply) → is_exempt e ≡ false → (turn ≡ turns.Wants e → ⊥) → IsRefused s limit count n (Made e v)
      refused_other e v plain other can =
          elim (can.1).ready [
            | inl a ↦ other (wants_this s.program d.thread turn e (d.on).here d.says plain (ap (wants_of s.program) (sym (settled_is can.0 a)) ∙ (can.1).wants))
            | inr a ↦ (let leaves = full_leaves (machine_of s.program) (machine_laws s.program) (λ x. not (is_exempt x)) a.settled a.may in
                let is : ◌≡◌ {A = Want Event} (Calls (events.Ask Leave)) (Calls e) = sym leaves ∙ (ap (wants_of s.program) (sym a.filled) ∙ (can.1).wants) in
                let same : events.Ask Leave ≡ e = cc is in cc (plain, ap is_exempt same))
          ]
