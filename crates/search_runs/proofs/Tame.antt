-- What threads without budgets come to, the scheduled machine comes to, and it is orderly.
use Rattle.std.proofs.Common.{◌≡◌, ◌==◌, ◌&&◌, Bool, true, false, cond, nat_lt, ℕ, zero, suc, ◌+◌, ◌<◌, ◌≤◌, length}
use Rattle.std.proofs.Common.{List, [], ◌∷◌, Some, None, refl, sym, ◌∙◌, ap, subst, arith}
use Rattle.std.specs.Cmp.{second_so}
use Rattle.std.proofs.lemmas.Bool.{eqb-true}
use Rattle.types.specs.declared.event.Event.{Event}
use Rattle.types.specs.declared.event.Event.TheVariants as events
use Rattle.types.specs.declared.event.Question.TheVariants as questions
use Rattle.types.specs.declared.event.Reply.{Reply}
use Rattle.types.specs.declared.event.Answer.{Answer}
use Rattle.types.specs.declared.outcome.Outcome.{Outcome}
use Rattle.types.specs.declared.limits.TheConstants.{MOST_THREADS}
use Rattle.shared_memory.specs.WaitQueue.{WaitQueue, next_id}
use Rattle.schedule.specs.System.{Want, Want.Turns, Want.Calls, Want.Awaits, Kind.Turn, System}
use Rattle.schedule.specs.System as systems
use Rattle.schedule.specs.Scheduled.{scheduled_run, after_mark}
use Rattle.schedule.specs.Machine.{Thread.Absent, Thread.Runs, Thread.Leaves, Thread.Left, wanted}
use Rattle.schedule.specs.Machine.{Wish, Wish.Asks, Wish.Ends, Wish.Goes, Wish.Waits}
use Rattle.interp_machine.specs.Program.{Program}
use Rattle.interp_machine.specs.State.{State, At}
use Rattle.schedule_threads.specs.Shared.{Shared}
use Rattle.schedule_threads.specs.Threads.{machine_of, wishes}
use Rattle.schedule_runs.specs.Runs as runs
use Rattle.interp_trait.specs.Turns.{Running, wants_of, IsHere, spawned_in}
use Rattle.schedule_machine.specs.Runs.{IsOrderly, system_by}
use Rattle.schedule_machine.proofs.Beginning.{orderly_first}
use Rattle.search_graph.specs.Paths.{Goes as GoesSteps, Reaches}
use Rattle.search_reach.proofs.Paths.{stays, one_step, onward}
use Rattle.search_threads.specs.Unlimited.{Unlimited.Missing, Unlimited.Going, Unlimited.Leaving, Unlimited.Away, unlimited_wants, want_by}
use Rattle.search_threads.specs.Budgets.{IsSame, turns_of, started_without}
use Rattle.search_threads.proofs.Laws as budgets
use Rattle.search_settled.specs.Settled.{StepsBy, AnswersFit, StartsFit, AreFew}
use Rattle.search_runs.specs.Called.{Called, Walker, setting_of, with_fuel, system_of, first_state, first_shared, first_threads}
use Rattle.search_runs.specs.Called.{reply_by, shared_by, answer_by, begun_at, begun_by}
use Rattle.search_runs.specs.Theorems.{ThreadsAreTame, CanReach, IsScheduled, EveryEndIsScheduled}
use Rattle.search_runs.proofs.Same.{budgeted, budgeted_first, system_same, first_state_same}
use Rattle.search_runs.proofs.Orderly.{along, by_event}

-- steps as turns

module _ {X T E V A : Type 0} (s : System X T E V A) where
  pub turns_for : (count : ℕ) (w z : systems.State X T) → GoesSteps (StepsBy s) count w z → (turns : List ℕ) × (scheduled_run s w (turns_of turns) ≡ z)
  turns_for zero w z path = ([], path)
  turns_for (suc count) w z path =
      let rest = turns_for count path.0 z path.2 in
      (path.1.0 ∷ rest.0, ap (λ v. scheduled_run s v (turns_of rest.0)) (sym path.1.1) ∙ rest.1)

  pub reached_by : (turns : List ℕ) (w : systems.State X T) → Reaches (StepsBy s) w (scheduled_run s w (turns_of turns))
  reached_by [] w = stays (StepsBy s) w
  reached_by (n ∷ turns) w =
      onward (StepsBy s) w (after_mark s w n Turn) (scheduled_run s (after_mark s w n Turn) (turns_of turns))
      (one_step (StepsBy s) w (after_mark s w n Turn) (n, refl)) (reached_by turns (after_mark s w n Turn))

pub scheduled : EveryEndIsScheduled
scheduled b w reach =
    let path = turns_for (system_of b) reach.count (first_state b) w reach.path in
    let fuel = length path.0 + 1 in
    let same = budgets.unlimited_runs_have_budgets State Event Reply Answer Outcome Shared (machine_of b.program) reply_by shared_by answer_by (begun_by b)
    fuel (first_shared b) (first_threads b) path.0 (omega arith) in
    let there : scheduled_run (runs.system_of (with_fuel b fuel)) (runs.first_state (with_fuel b fuel)) (turns_of path.0)
    ≡ scheduled_run (budgeted b fuel) (budgeted_first b fuel) (turns_of path.0) =
    λ i. scheduled_run (system_same b fuel i) (first_state_same b fuel i) (turns_of path.0) in
    record {
      fuel = fuel;
      turns = path.0;
      shared = ap (λ z. z.shared) there ∙ (same.shared ∙ ap (λ z. z.shared) path.1);
      threads = λ m. subst (λ t. IsSame (w.threads m) t) (ap (λ (z : systems.State Shared Running). z.threads m) (sym there))
          (subst (λ (z : systems.State Shared Walker). IsSame (z.threads m)
          ((scheduled_run (budgeted b fuel) (budgeted_first b fuel) (turns_of path.0)).threads m))
          path.1 (same.threads m));
    }

-- a thread without a budget is given one unit

abbrev pub given : Walker → Running
given Missing = Absent
given (Going c) = Runs c 1
given (Leaving o) = Leaves o 1
given (Away o) = Left o 1

given_here : (v : Walker) (t : Running) → IsSame v t → IsHere (given v) → IsHere t
given_here Missing t same h = absurd h
given_here (Going c) t same h = subst IsHere (sym same.1) tt
given_here (Leaving o) t same h = absurd h
given_here (Away o) t same h = absurd h

given_absent : (v : Walker) (t : Running) → IsSame v t → t ≡ Absent → v ≡ Missing
given_absent Missing t same h = refl
given_absent (Going c) t same h = let is = same.1 in absurd (cc (is, h))
given_absent (Leaving o) t same h = let is = same.1 in absurd (cc (is, h))
given_absent (Away o) t same h = let is = same.1 in absurd (cc (is, h))

waits_still : (p : Program) (left : ℕ) (w : Wish Event Outcome) → wanted (machine_of p) left w ≡ Awaits → wanted (machine_of p) 1 w ≡ Awaits
waits_still p left Waits h = refl
waits_still p left (Ends o) h = absurd (cc h)
waits_still p left Goes h = absurd (cc h)
waits_still p zero (Asks e) h = absurd (cc h)
waits_still p (suc n) (Asks e) h = absurd (cc h)

given_awaits : (p : Program) (v : Walker) (t : Running) → IsSame v t → wants_of p t ≡ Awaits → wants_of p (given v) ≡ Awaits
given_awaits p Missing t same h = let is : t ≡ Absent = same in absurd (cc (sym (ap (wants_of p) is) ∙ h))
given_awaits p (Going c) t same h = waits_still p same.0 (wishes p c) (sym (ap (wants_of p) same.1) ∙ h)
given_awaits p (Leaving o) t same h = refl
given_awaits p (Away o) t same h = absurd (cc (sym (ap (wants_of p) same.1) ∙ h))

wish_same : (p : Program) (w : Wish Event Outcome) → wanted (machine_of p) 1 w ≡ want_by (machine_of p) w
wish_same p Waits = refl
wish_same p (Ends o) = refl
wish_same p Goes = refl
wish_same p (Asks e) = refl

pub given_wants : (p : Program) (v : Walker) → wants_of p (given v) ≡ unlimited_wants (machine_of p) v
given_wants p Missing = refl
given_wants p (Going c) = wish_same p (wishes p c)
given_wants p (Leaving o) = refl
given_wants p (Away o) = refl

-- where they come it is orderly

module _ (b : Called) (w : systems.State Shared Walker) (reach : CanReach b w) where
  is : IsScheduled b w
  is = scheduled b w reach

  abbrev Machine : ℕ → List ℕ → systems.State Shared Running
  Machine fuel turns = scheduled_run (system_by (setting_of b fuel)) (runs.first_state (with_fuel b fuel)) (turns_of turns)

  machine_orderly : (fuel : ℕ) (turns : List ℕ) → IsOrderly b.program (Machine fuel turns).shared.queue (Machine fuel turns).threads
  machine_orderly fuel turns = along (setting_of b fuel) turns (runs.first_state (with_fuel b fuel)) (orderly_first b.program (Runs (At b.main) fuel))

  abbrev metered : systems.State Shared Running
  metered = record { shared = w.shared; threads = λ m. given (w.threads m) }

  pub orderly : IsOrderly b.program metered.shared.queue metered.threads
  orderly =
      let z = Machine is.fuel is.turns in
      let o : IsOrderly b.program w.shared.queue z.threads = subst (λ (x : Shared). IsOrderly b.program x.queue z.threads) is.shared
      (machine_orderly is.fuel is.turns) in
      record {
        sound = o.sound;
        dues = o.dues;
        heard = o.heard;
        unstarted = λ m past. ap given (given_absent (w.threads m) (z.threads m) (is.threads m) (o.unstarted m past));
        living = λ m h. o.living m (given_here (w.threads m) (z.threads m) (is.threads m) h);
        awaiting = λ m asleep. given_awaits b.program (w.threads m) (z.threads m) (is.threads m) (o.awaiting m asleep);
      }

  not_given : (v : Walker) → given v ≡ Absent → v ≡ Missing
  not_given Missing h = refl
  not_given (Going c) h = absurd (cc h)
  not_given (Leaving o) h = absurd (cc h)
  not_given (Away o) h = absurd (cc h)

  pub missing : (m : ℕ) → next_id w.shared.queue ≤ m → w.threads m ≡ Missing
  missing m past = not_given (w.threads m) (orderly.unstarted m past)

  pub answers_fit : AnswersFit (system_of b) w
  answers_fit n m e a calls gives apart =
      sym (given_wants b.program (w.threads m))
      ∙ (by_event (setting_of b 0) metered n orderly e (given_wants b.program (w.threads n) ∙ calls)).awaited m a gives apart

  pub few : AreFew (system_of b) MOST_THREADS w
  few m past turns =
      let low : length (WaitQueue.args w.shared.queue) < length (WaitQueue.due w.shared.queue) = orderly.sound.few in
      let dues = orderly.dues in
      let gone : w.threads m ≡ Missing = missing m (omega (arith, low, dues, past)) in
      cc (sym (ap (unlimited_wants (machine_of b.program)) gone) ∙ turns)

  -- a thread that starts has the next number, which nobody has
  by_number : (arg m : ℕ) (t : Walker) (is : Bool) → (nat_lt m (length w.shared.queue.due) && (m == next_id w.shared.queue)) ≡ is
      → started_without (cond is (Some (spawned_in b.worker m arg)) None) ≡ Some t → m ≡ next_id w.shared.queue
  by_number arg m t true is h = eqb-true m (next_id w.shared.queue) (second_so (nat_lt m (length w.shared.queue.due)) (m == next_id w.shared.queue) is)
  by_number arg m t false is h = absurd (cc h)

  number_of : (e : Event) (m : ℕ) (t : Walker) → started_without (begun_at b w.shared e m) ≡ Some t → m ≡ next_id w.shared.queue
  number_of events.Size m t h = absurd (cc h)
  number_of (events.Grow more) m t h = absurd (cc h)
  number_of (events.Load addr width reach) m t h = absurd (cc h)
  number_of (events.Store addr width reach value) m t h = absurd (cc h)
  number_of (events.Rmw op addr width value) m t h = absurd (cc h)
  number_of (events.Cmpxchg addr width expected replacement) m t h = absurd (cc h)
  number_of (events.Ask (questions.Wait addr width expected timeout)) m t h = absurd (cc h)
  number_of (events.Ask (questions.Notify addr count)) m t h = absurd (cc h)
  number_of (events.Ask (questions.Spawn arg)) m t h = by_number arg m t (nat_lt m (length w.shared.queue.due) && (m == next_id w.shared.queue)) refl h
  number_of (events.Ask questions.Leave) m t h = absurd (cc h)
  number_of (events.Told answer) m t h = absurd (cc h)

  pub starts_fit : StartsFit (system_of b) w
  starts_fit n m e t calls starts =
      let next : m ≡ next_id w.shared.queue = number_of e m t starts in
      ap (unlimited_wants (machine_of b.program)) (missing m (omega (arith, next)))

pub tame : ThreadsAreTame
tame b = record { answers = λ w reach. answers_fit b w reach; starts = λ w reach. starts_fit b w reach; few = λ w reach. few b w reach }
