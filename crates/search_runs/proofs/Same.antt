-- The system of threads with a budget is the one that crate schedule_runs has, and its first state too.
use Rattle.std.proofs.Common.{◌≡◌, ℕ, ◌==◌, ◌&&◌, Bool, true, false, cond, length, Some, None, refl, sym, ◌∙◌, ap}
use Rattle.std.specs.Prelude.{nat_lt}
use Rattle.types.specs.declared.event.Event.{Event}
use Rattle.types.specs.declared.event.Event.TheVariants as events
use Rattle.types.specs.declared.event.Question.TheVariants as questions
use Rattle.types.specs.declared.event.Reply.{Reply}
use Rattle.types.specs.declared.event.Answer.{Answer}
use Rattle.types.specs.declared.outcome.Outcome.{Outcome}
use Rattle.shared_memory.specs.WaitQueue.{next_id}
use Rattle.schedule.specs.System.{System, put, Kind.Turn}
use Rattle.schedule.specs.System as systems
use Rattle.schedule.specs.Machine.{Thread.Absent, Thread.Runs, system}
use Rattle.schedule.proofs.Basics.{at_each, put-same, put-other}
use Rattle.interp_machine.specs.State.{State, At}
use Rattle.schedule_threads.specs.Shared.{Shared, starts_by}
use Rattle.schedule_threads.specs.Threads.{machine_of}
use Rattle.schedule_runs.specs.Runs as runs
use Rattle.interp_trait.specs.Turns.{Running, spawned_in}
use Rattle.search_threads.specs.Budgets.{started_with, first_with, with_budget, first_state_with}
use Rattle.search_runs.specs.Called.{Called, with_fuel, reply_by, shared_by, answer_by, begun_at, begun_by, first_shared, first_threads}

module _ (b : Called) (fuel : ℕ) where
  abbrev pub budgeted : System Shared Running Event Reply Answer
  budgeted = with_budget (machine_of b.program) reply_by shared_by answer_by (begun_by b) fuel

  abbrev pub budgeted_first : systems.State Shared Running
  budgeted_first = first_state_with (machine_of b.program) reply_by shared_by answer_by (begun_by b) fuel (first_shared b) (first_threads b)

  if_started : (c : Bool) (x : State) → cond c (Some (Runs x fuel)) None ≡ started_with {C = State} {O = Outcome} fuel (cond c (Some x) None)
  if_started true x = refl
  if_started false x = refl

  starts_same : (x : Shared) (e : Event) (m : ℕ)
      → starts_by (machine_of b.program) (spawned_in b.worker) fuel x e m ≡ started_with {C = State} {O = Outcome} fuel (begun_at b x e m)
  starts_same x events.Size m = refl
  starts_same x (events.Grow more) m = refl
  starts_same x (events.Load addr width reach) m = refl
  starts_same x (events.Store addr width reach value) m = refl
  starts_same x (events.Rmw op addr width value) m = refl
  starts_same x (events.Cmpxchg addr width expected replacement) m = refl
  starts_same x (events.Ask (questions.Wait addr width expected timeout)) m = refl
  starts_same x (events.Ask (questions.Notify addr count)) m = refl
  starts_same x (events.Ask (questions.Spawn arg)) m = if_started (nat_lt m (length x.queue.due) && (m == next_id x.queue)) (spawned_in b.worker m arg)
  starts_same x (events.Ask questions.Leave) m = refl
  starts_same x (events.Told answer) m = refl

  pub system_same : runs.system_of (with_fuel b fuel) ≡ budgeted
  system_same = λ i. system (machine_of b.program) reply_by shared_by answer_by (λ (x : Shared) (n : ℕ) (e : Event) (m : ℕ). starts_same x e m i)

  first_same : (m : ℕ) → put (λ (k : ℕ). Absent) 0 (Runs (At b.main) fuel) m ≡ first_with {C = State} {O = Outcome} fuel (first_threads b m)
  first_same = at_each 0 (λ m. put (λ (k : ℕ). Absent) 0 (Runs (At b.main) fuel) m ≡ first_with {C = State} {O = Outcome} fuel (first_threads b m))
      (put-same (λ (k : ℕ). Absent) 0 (Runs (At b.main) fuel)
      ∙ sym (ap (first_with fuel) (put-same (λ (k : ℕ). None) 0 (Some (At b.main)))))
      (λ m apart. put-other (λ (k : ℕ). Absent) 0 (Runs (At b.main) fuel) m apart
      ∙ sym (ap (first_with fuel) (put-other (λ (k : ℕ). None) 0 (Some (At b.main)) m apart)))

  pub first_state_same : runs.first_state (with_fuel b fuel) ≡ budgeted_first
  first_state_same = λ i. record { shared = first_shared b; threads = λ m. first_same m i }
