-- How a thread that wants no turn of its own goes on: by its leave, or by an event that no leave is.
use Rattle.std.proofs.Common.{◌≡◌, ℕ, zero, suc, true, false, not, Some, None, refl, ◌∙◌, ap}
use Rattle.types.specs.declared.event.Event.{Event}
use Rattle.types.specs.declared.event.Event.TheVariants as events
use Rattle.types.specs.declared.event.Question.TheVariants.{Wait, Notify, Spawn, Leave}
use Rattle.types.specs.declared.outcome.Outcome.{Outcome}
use Rattle.types.specs.declared.outcome.Outcome.TheVariants as outcomes
use Rattle.types.specs.declared.outcome.Stop.TheVariants as stops
use Rattle.shared_memory.specs.Events.{is_exempt}
use Rattle.schedule.specs.System.{Want.Turns, Want.Calls}
use Rattle.schedule.specs.Machine.{Wish.Asks, Thread.Absent, Thread.Runs, Thread.Over, Thread.Leaves, Thread.Left, wanted, wants_a, thread_full, thread_wants_a}
use Rattle.interp_machine.specs.Program.{Program}
use Rattle.interp_machine.specs.Config as configs
use Rattle.interp_machine.specs.Step.{next}
use Rattle.interp_machine.specs.State as states
use Rattle.schedule_threads.specs.Threads.{machine_of, wish_of, IsOfThread}
use Rattle.schedule_threads.proofs.Asking.{wishes_of_threads}
use Rattle.interp_trait.specs.Turns.{Running, left_of, outcome_of, wants_of, IsHere}
use Rattle.interp_trait.specs.declared.turn.Turn.{Turn}
use Rattle.interp_trait.specs.declared.turn.Turn.TheVariants as turns
use Rattle.replay_walk.specs.Standing.{Says}

-- who has ended wants to leave
pub leaving : (p : Program) (t : Running) (o : Outcome) → IsHere t → outcome_of t ≡ Some o → wants_of p t ≡ Calls (events.Ask Leave)
leaving p Absent o here ended = absurd here
leaving p (Runs (states.At c) left) o here ended = absurd (cc ended)
leaving p (Runs (states.Over x) left) o here ended = refl
leaving p (Over x left) o here ended = refl
leaving p (Leaves x left) o here ended = absurd here
leaving p (Left x left) o here ended = absurd here

-- what a running thread that wants an event wishes, and that it may find the log full
asks_wish : (p : Program) (left : ℕ) (e : Event) (go : configs.Next) → wanted (machine_of p) left (wish_of go) ≡ Calls e
    → (wish_of go ≡ Asks e) × (wants_a (machine_of p) (λ x. not (is_exempt x)) left (wish_of go) ≡ not (is_exempt e))
asks_wish p left e configs.Stuck h = absurd (cc h)
asks_wish p left e (configs.Goes x) h = absurd (cc h)
asks_wish p left e (configs.Traps x) h = absurd (cc h)
asks_wish p left e (configs.Finishes x) h = absurd (cc h)
asks_wish p left e (configs.Hears go) h = absurd (cc h)
asks_wish p zero e (configs.Asks x go) h = absurd (cc h)
asks_wish p (suc n) e (configs.Asks x go) h = let same : x ≡ e = cc h in (ap (λ y. Asks y) same, ap (λ y. not (is_exempt y)) same)

-- no such event is a leave or an answer taken
of_threads : (e : Event) → IsOfThread e → is_exempt e ≡ false
of_threads (events.Ask Leave) h = absurd h
of_threads (events.Told a) h = absurd h
of_threads (events.Ask (Wait addr width expected timeout)) h = refl
of_threads (events.Ask (Notify addr count)) h = refl
of_threads (events.Ask (Spawn arg)) h = refl
of_threads events.Size h = refl
of_threads (events.Grow more) h = refl
of_threads (events.Load addr width reach) h = refl
of_threads (events.Store addr width reach value) h = refl
of_threads (events.Rmw op addr width value) h = refl
of_threads (events.Cmpxchg addr width expected replacement) h = refl

-- a thread that hasn't ended and wants an event: the event is no leave, and a full log ends the thread
pub record GoesOn (p : Program) (t : Running) (e : Event) : Type 0 where
  pub plain : is_exempt e ≡ false
  pub may : thread_wants_a (machine_of p) (λ x. not (is_exempt x)) t ≡ true
  pub here : IsHere (thread_full (machine_of p) t)
  pub ended : outcome_of (thread_full (machine_of p) t) ≡ Some (outcomes.Stop stops.RecordFull)
  pub leaves : wants_of p (thread_full (machine_of p) t) ≡ Calls (events.Ask Leave)
  pub left : left_of (thread_full (machine_of p) t) ≡ left_of t

pub goes_on : (p : Program) (t : Running) (e : Event) → IsHere t → outcome_of t ≡ None → wants_of p t ≡ Calls e → GoesOn p t e
goes_on p Absent e here none wants = absurd here
goes_on p (Runs (states.At c) left) e here none wants =
    let asks = asks_wish p left e (next p c) wants in
    let plain : is_exempt e ≡ false = of_threads e (wishes_of_threads p (states.At c) e asks.0) in
    record { plain = plain; may = asks.1 ∙ ap (λ b. not b) plain; here = tt; ended = refl; leaves = refl; left = refl }
goes_on p (Runs (states.Over o) left) e here none wants = absurd (cc none)
goes_on p (Over o left) e here none wants = absurd (cc none)
goes_on p (Leaves o left) e here none wants = absurd here
goes_on p (Left o left) e here none wants = absurd here

-- who says what it wants makes no turn of its own
pub rests : (p : Program) (t : Running) (turn : Turn) → IsHere t → Says p t turn → wants_of p t ≡ Turns → ⊥
rests p t turns.Moved here says own = says
rests p t (turns.Wants e) here says own = cc (says.1, own)
rests p t turns.Awaits here says own = cc (says.1, own)
rests p t (turns.Ended o) here says own = cc (leaving p t o here says, own)

-- who has left, or isn't there, makes no event
pub left_none : (p : Program) (o : Outcome) (left : ℕ) (e : Event) → wants_of p (Left o left) ≡ Calls e → ⊥
left_none p o left e h = cc h
