-- A mark by which one thread alone changes.
use Rattle.std.proofs.Common.{◌≡◌, ℕ, zero, suc, ◌<◌, ◌≤◌, Bool, true, false, cond, length, None, refl, sym, ◌∙◌, ap, subst, set, length-set}
use Rattle.types.specs.declared.event.Event.{Event}
use Rattle.types.specs.declared.outcome.Outcome.{Outcome}
use Rattle.shared_memory.specs.WaitQueue.{next_id}
use Rattle.schedule.specs.System.{State, Want, Want.Turns, Want.Calls, Want.Awaits, Want.Gone, put}
use Rattle.schedule.specs.Scheduled.{with_thread, if_may, after_turn}
use Rattle.schedule.specs.Machine.{Wish, Thread.Absent, Thread.Runs, Thread.Over, Thread.Leaves, Thread.Left, wanted, wants_a, thread_wants_a, thread_goes}
use Rattle.interp_machine.specs.Program.{Program}
use Rattle.schedule_threads.specs.Shared.{Shared}
use Rattle.schedule_threads.specs.Threads.{machine_of}
use Rattle.interp_trait.specs.Turns.{Running, wants_of, own_turn_if, Meaning}
use Rattle.schedule_machine.specs.Threads.{Setting, called}
use Rattle.schedule_program.specs.Threads.{IsThread}
use Rattle.schedule_machine.specs.Runs.{IsOrderly, system_by}
use Rattle.schedule_program.specs.Runs.{IsAt, AreThreads}
use Rattle.schedule_program.specs.declared.stepped.Stepped.{Stepped}
use Rattle.schedule_program.specs.declared.stepping.Machine.{Machine}
use Rattle.schedule_machine.proofs.Orderly.{orderly_put, calls_here, turns_here}
use Rattle.schedule_program.proofs.Slots.{are_put, are_set, none_past}

calls_by : (p : Program) (f : Event → Bool) (left : ℕ) (wish : Wish Event Outcome)
    → wants_a (machine_of p) f left wish ≡ true → (e : Event) × (wanted (machine_of p) left wish ≡ Calls e)
calls_by p f left Wish.Waits h = absurd (cc h)
calls_by p f left (Wish.Ends o) h = absurd (cc h)
calls_by p f left Wish.Goes h = absurd (cc h)
calls_by p f zero (Wish.Asks e) h = absurd (cc h)
calls_by p f (suc n) (Wish.Asks e) h = (e, refl)

calls_such : (p : Program) (f : Event → Bool) (t : Running) → thread_wants_a (machine_of p) f t ≡ true → (e : Event) × (wants_of p t ≡ Calls e)
calls_such p f Absent h = absurd (cc h)
calls_such p f (Runs c left) h = calls_by p f left ((machine_of p).wishes c) h
calls_such p f (Over o left) h = absurd (cc h)
calls_such p f (Leaves o left) h = absurd (cc h)
calls_such p f (Left o left) h = absurd (cc h)

module _ {S : Type 0} (meaning : S → Meaning) (s : Setting) (w : State Shared Running) (n : ℕ) where
  abbrev At : Machine S → State Shared Running → Type 0
  At m z = IsAt meaning s m z

  abbrev Is : Stepped S → Running → Type 0
  Is x t = IsThread meaning s x t

  -- of two machines, that one is the other but for a thread
  pub record Changes (old new : Machine S) (y : Stepped S) : Type 0 where
    pub within : n < length old.threads.items
    pub threads : new.threads.items ≡ set old.threads.items n y
    pub shared : ◌≡◌ {A = Shared} (record { memory = old.memory; queue = old.queue }) (record { memory = new.memory; queue = new.queue })
    pub next : old.next_id ≡ next_id old.queue → new.next_id ≡ next_id new.queue

  pub at_put : (old new : Machine S) (y : Stepped S) (t : Running) → Changes old new y → At old w → Is y t
      → IsOrderly s.program w.shared.queue (put w.threads n t)
      → At new (with_thread (system_by s) w n t)
  at_put old new y t c at is orderly = record {
    shared = at.shared ∙ c.shared;
    threads = subst (λ xs. AreThreads meaning s xs (put w.threads n t)) (sym c.threads)
        (are_put meaning s old.threads.items w.threads n y t c.within at.threads is);
    slots = λ some. ap length c.threads ∙ (length-set old.threads.items n y ∙ at.slots some);
    next = c.next at.next;
    orderly = orderly;
  }

  pub at_same : (old new : Machine S) (y : Stepped S) → Changes old new y → At old w → Is y (w.threads n) → At new w
  at_same old new y c at is = record {
    shared = at.shared ∙ c.shared;
    threads = subst (λ xs. AreThreads meaning s xs w.threads) (sym c.threads)
        (are_set meaning s old.threads.items w.threads w.threads n y c.within at.threads is (λ m apart. refl));
    slots = λ some. ap length c.threads ∙ (length-set old.threads.items n y ∙ at.slots some);
    next = c.next at.next;
    orderly = at.orderly;
  }

  -- a thread that wants an event of a kind changes, and another doesn't
  pub at_if : (old new : Machine S) (y : Stepped S) (f : Event → Bool) (t : Running) → Changes old new y → At old w
      → (b : Bool) → thread_wants_a (machine_of s.program) f (w.threads n) ≡ b
      → Is y (cond b t (w.threads n)) → At new (if_may (system_by s) b (with_thread (system_by s) w n t) w)
  at_if old new y f t c at true may is =
      let calls = calls_such s.program f (w.threads n) may in
      at_put old new y t c at is (orderly_put s.program w.shared.queue w.threads n t at.orderly
      (calls_here s.program (w.threads n) calls.0 calls.1) (λ awaits. absurd (cc (calls.1, awaits))))
  at_if old new y f t c at false may is = at_same old new y c at is

  -- a turn of its own
  pub at_own : (old new : Machine S) (y : Stepped S) → Changes old new y → At old w → (want : Want Event)
      → wants_of s.program (w.threads n) ≡ want → called want ≡ None
      → Is y (own_turn_if s.program (w.threads n) want) → At new (after_turn (system_by s) w n want)
  at_own old new y c at Turns is none stands_for =
      at_put old new y (thread_goes (machine_of s.program) (w.threads n)) c at stands_for
      (orderly_put s.program w.shared.queue w.threads n (thread_goes (machine_of s.program)
      (w.threads n)) at.orderly (turns_here s.program (w.threads n) is) (λ awaits. absurd (cc (is, awaits))))
  at_own old new y c at (Calls e) is none stands_for = absurd (cc none)
  at_own old new y c at Awaits is none stands_for = at_same old new y c at stands_for
  at_own old new y c at Gone is none stands_for = at_same old new y c at stands_for

  pub at_gone : (old : Machine S) → length old.threads.items ≤ n → At old w → At old (after_turn (system_by s) w n (wants_of s.program (w.threads n)))
  at_gone old past at =
      let gone : w.threads n ≡ Absent = none_past meaning s old.threads.items w.threads n past at.threads in
      subst (λ (u : Running). At old (after_turn (system_by s) w n (wants_of s.program u))) (sym gone) at
