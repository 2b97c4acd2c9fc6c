-- What holds of all threads of a module: who is there, and what is equal is the same.
use Rattle.std.specs.Prelude.{ℕ, zero, suc, [], ◌∷◌, ◌≡◌, ◌&&◌, ◌<◌, ◌≤◌, true, List, length, Option, Some, None, nat_eq}
use Rattle.std.proofs.Common.{refl, sym, ap, ◌∙◌, subst, arith, inl, inr, lit≤}
use Rattle.std.specs.List.{slice_get}
use Rattle.std.specs.Cmp.{first_so, second_so}
use Rattle.std.proofs.lemmas.Bool.{cases_lt}
use Rattle.types.specs.declared.event.Event.{Event}
use Rattle.shared_memory.specs.Memory.{reply_of}
use Rattle.shared_memory.specs.WaitQueue.{WaitQueue, next_id}
use Rattle.types.specs.declared.limits.TheConstants.{MOST_THREADS}
use Rattle.schedule.specs.System.{Want.Calls, State}
use Rattle.schedule.specs.Scheduled.{after_event, or_started}
use Rattle.schedule_threads.specs.Shared.{Shared}
use Rattle.schedule_threads.specs.Threads.{machine_of}
use Rattle.schedule_runs.proofs.Idle.{next_along}
use Rattle.interp_machine.specs.State as states
use Rattle.search_threads.specs.Unlimited.{Unlimited.Missing, Unlimited.Away, unlimited_wants}
use Rattle.search_threads.specs.Budgets.{started_without}
use Rattle.search_reach.proofs.Paths.{onward}
use Rattle.search_settled.specs.Settled.{StepsBy}
use Rattle.search_settled.proofs.Reaching.{by_event}
use Rattle.search_runs.proofs.Tame.{orderly, missing}
use Rattle.search_runs.specs.Theorems.{CanReach}
use Rattle.search_settled.specs.Next.{NobodyTurns}
use Rattle.search_settled.specs.Flat.{AreBounded}
use Rattle.search_runs.specs.Called.{Called, Walker, system_of, first_state, shared_by, begun_by}
use Rattle.search_runs.specs.Ends.{HasEndedSo}
use Rattle.validate_typing.specs.Tabled.{WithTables}
use Rattle.search_memory.specs.contracts.beside.ChangesPartialEq.TheImpl as memories
use Rattle.waiters.specs.contracts.kept.KeptQueuePartialEq.TheImpl as queues
use Rattle.search_parts.specs.contracts.walker.RestingThreadPartialEq.TheImpl as standings
use Rattle.search_parts.proofs.Standings.{same_standing}
use Rattle.search_parts.proofs.SharedParts.{same_memory, same_queue}
use Rattle.search_parts.specs.Parts.{IsRested}
use Rattle.search_parts.specs.Sharing.{Shares, started_in}
use Rattle.search_parts.specs.declared.shared.Common.{Common}
use Rattle.search_parts.specs.declared.shared.HashedThread as walkers
use Rattle.search_parts.specs.contracts.shared.CommonPartialEq.TheImpl as common_eq
use Rattle.search_parts.specs.contracts.shared.HashedThreadPartialEq.TheImpl as walker_eq
use Rattle.shared_memory_sequential.specs.Opening.{IsSized}

pub same_thread : (w : WithTables) (b : Called) (x y : walkers.HashedThread) → walker_eq.eq-value.it x y ≡ true → (v : Walker)
    → IsRested w b x.standing v → IsRested w b y.standing v
same_thread w b x y e v is = record {
  stands = same_standing w x.standing y.standing v (second_so (nat_eq x.digest y.digest) (standings.eq-value.it x.standing y.standing) e) is.stands;
  rests = is.rests;
}

pub same_shared : (opening : List ℕ) (x y : Common) → common_eq.eq-value.it x y ≡ true → (w : Shared) → Shares opening x w → Shares opening y w
same_shared opening x y e w sh =
    let memories_so = memories.eq-value.it x.memory y.memory in
    let queues_so = queues.eq-value.it x.queue y.queue in
    let rest = second_so (nat_eq x.digest y.digest) (memories_so && queues_so) e in
    let memory = same_memory opening x.memory y.memory (first_so memories_so queues_so rest) in
    let queue = same_queue x.queue y.queue (second_so memories_so queues_so rest) in
    record {
      memory = sym memory ∙ sh.memory;
      queue = sym queue ∙ sh.queue;
      sized = subst IsSized memory sh.sized;
    }

-- the threads that were started are counted, and an event takes none back
module _ (b : Called) where
  few : (w : State Shared Walker) → CanReach b w → started_in w.shared ≤ MOST_THREADS
  few w reach =
      let o = orderly b w reach in
      let low : length (WaitQueue.args w.shared.queue) < length (WaitQueue.due w.shared.queue) = o.sound.few in
      let dues : length (WaitQueue.due w.shared.queue) ≡ MOST_THREADS = o.dues in
      omega (arith, low, dues)

  more : (w : State Shared Walker) → CanReach b w → (n : ℕ) (e : Event) → started_in w.shared ≤ started_in (shared_by w.shared n e)
  more w reach n e = next_along w.shared.queue (record { thread = n; event = e; reply = reply_of w.shared.memory e } ∷ [])

  -- who isn't counted wasn't started
  abbrev new_thread : Option states.State → Option Walker
  new_thread o = started_without o

  started_none : (o : Option states.State) (t : Walker) → or_started (new_thread o) t ≡ Missing → new_thread o ≡ None
  started_none None t h = refl
  started_none (Some c) t h = absurd (cc h)

  none : (w : State Shared Walker) → CanReach b w → (n m : ℕ) (e : Event) → (system_of b).wants (w.threads n) ≡ Calls e
      → started_in (shared_by w.shared n e) ≤ m → new_thread (begun_by b w.shared n e m) ≡ None
  none w reach n m e wants past =
      let after = after_event (system_of b) w n e in
      let reached = onward (StepsBy (system_of b)) (first_state b) w after reach (by_event (system_of b) w n e wants) in
      started_none (begun_by b w.shared n e m) _ (missing b after reached m past)

  pub bounded : AreBounded (system_of b) (first_state b) started_in MOST_THREADS
  bounded = record { numbered = lit≤ tt; few = few; more = more; none = none }

-- a place within a list
is_there : {A : Type 0} (xs : List A) (n : ℕ) → n < length xs → (x : A) × (slice_get xs n ≡ Some x)
is_there [] n lt = absurd (omega (arith, lt))
is_there (x ∷ xs) zero lt = (x, refl)
is_there (x ∷ xs) (suc n) lt = is_there xs n (omega (arith, lt))

pub over : (b : Called) (dump : ℕ) → NobodyTurns (system_of b) (HasEndedSo dump)
over b dump w o ends m turns =
    elim (cases_lt m (next_id w.shared.queue)) [
      | inl low ↦ (let count = ends.count in
          let at = is_there o.outcomes m (omega (arith, low, count)) in
          let away : w.threads m ≡ Away at.0 = ends.left m at.0 at.1 in
          absurd (cc (sym (ap (unlimited_wants (machine_of b.program)) away) ∙ turns)))
      | inr past ↦ (let away : w.threads m ≡ Missing = ends.others m past in
          absurd (cc (sym (ap (unlimited_wants (machine_of b.program)) away) ∙ turns)))
    ]
