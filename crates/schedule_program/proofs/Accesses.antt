-- An event at which the queue stays as it is: no question, or one out of bounds.
use Rattle.std.proofs.Common.{◌≡◌, ℕ, ◌<◌, length, None, sym, ◌∙◌, ap, subst, set, length-set}
use Rattle.types.specs.declared.event.Event.{Event}
use Rattle.shared_memory.specs.Memory.{Memory, reply_of, state_after}
use Rattle.shared_memory.specs.WaitQueue.{answer_due, next_id}
use Rattle.shared_memory.specs.History.{queue_step}
use Rattle.schedule.specs.System.{State, Want.Calls, put}
use Rattle.schedule.specs.Scheduled.{after_event, hears_any, or_started}
use Rattle.schedule.specs.Machine.{thread_takes}
use Rattle.schedule_threads.specs.Shared.{Shared, starts_by, without_dues}
use Rattle.schedule_threads.specs.Threads.{machine_of}
use Rattle.interp_trait.specs.Turns.{Running, wants_of, Meaning, spawned_in}
use Rattle.schedule_machine.specs.Threads.{Setting}
use Rattle.schedule_program.specs.Threads.{IsThread}
use Rattle.schedule_machine.specs.Runs.{IsOrderly, system_by}
use Rattle.schedule_program.specs.Runs.{IsAt, AreThreads}
use Rattle.schedule_program.specs.declared.stepped.Stepped.{Stepped}
use Rattle.schedule_program.specs.declared.stepping.Machine.{Machine}
use Rattle.schedule_machine.proofs.Orderly.{orderly_put, orderly_same, calls_here, nothing_due}
use Rattle.schedule_program.proofs.Slots.{are_put, are_same}

module _ {S : Type 0} (meaning : S → Meaning) (s : Setting) (w : State Shared Running) (n : ℕ) where
  -- of two machines, that one is the other after a thread's event at which the queue stays as it is, and nobody starts
  pub record Accesses (old new : Machine S) (y : Stepped S) (e : Event) : Type 0 where
    pub within : n < length old.threads.items
    pub threads : new.threads.items ≡ set old.threads.items n y
    pub memory : new.memory ≡ state_after old.memory e
    pub queue : new.queue ≡ old.queue
    pub next : old.next_id ≡ next_id old.queue → new.next_id ≡ next_id new.queue
    pub stays : queue_step w.shared.queue n e (reply_of w.shared.memory e) ≡ w.shared.queue
    pub nobody : (m : ℕ) → starts_by (machine_of s.program) (spawned_in s.worker) s.fuel w.shared e m ≡ None

  module _ (old new : Machine S) (y : Stepped S) (e : Event) (c : Accesses old new y e) (at : IsAt meaning s old w) where
    abbrev taken : Running
    taken = thread_takes (machine_of s.program) (w.threads n) (reply_of w.shared.memory e)

    abbrev after : State Shared Running
    after = after_event (system_by s) w n e

    queue_is : after.shared.queue ≡ w.shared.queue
    queue_is = ap without_dues c.stays ∙ at.orderly.heard

    threads_are : (m : ℕ) → after.threads m ≡ put w.threads n taken m
    threads_are m =
        let none : answer_due (queue_step w.shared.queue n e (reply_of w.shared.memory e)) m ≡ None =
        ap (λ q. answer_due q m) c.stays ∙ nothing_due s.program w.shared.queue w.threads at.orderly m in
        ap (λ o. or_started o (hears_any (system_by s) (put w.threads n taken m)
        (answer_due (queue_step w.shared.queue n e (reply_of w.shared.memory e)) m))) (c.nobody m)
        ∙ ap (λ o. hears_any (system_by s) (put w.threads n taken m) o) none

    shared_is : after.shared ≡ record { memory = new.memory; queue = new.queue }
    shared_is =
        ap (λ q. record { memory = state_after w.shared.memory e; queue = q }) (queue_is ∙ (ap (λ x. x.queue) at.shared ∙ sym c.queue))
        ∙ ap (λ (m : Memory). record { memory = m; queue = new.queue }) (ap (λ (x : Shared). state_after x.memory e) at.shared ∙ sym c.memory)

    pub at_access : wants_of s.program (w.threads n) ≡ Calls e → IsThread meaning s y taken → IsAt meaning s new after
    at_access calls is = record {
      shared = shared_is;
      threads = are_same meaning s new.threads.items (put w.threads n taken) after.threads threads_are
          (subst (λ xs. AreThreads meaning s xs (put w.threads n taken)) (sym c.threads)
          (are_put meaning s old.threads.items w.threads n y taken c.within at.threads is));
      slots = λ some. ap length c.threads ∙ (length-set old.threads.items n y ∙ at.slots some);
      next = c.next at.next;
      orderly = subst (λ q. IsOrderly s.program q after.threads) (sym queue_is)
          (orderly_same s.program w.shared.queue (put w.threads n taken) after.threads threads_are
          (orderly_put s.program w.shared.queue w.threads n taken at.orderly (calls_here s.program (w.threads n) e calls)
          (λ awaits. absurd (cc (calls, awaits)))));
    }
