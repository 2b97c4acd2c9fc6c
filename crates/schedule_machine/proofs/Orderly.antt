-- What every state of the scheduled machine keeps to, and why it does after each mark.
use Rattle.std.proofs.Common.{◌≡◌, ℕ, ◌≤◌, true, None, ◌∙◌, ap, subst}
use Rattle.std.proofs.lemmas.Bool.{false_from_ne_true}
use Rattle.types.specs.declared.event.Event.{Event}
use Rattle.shared_memory.specs.WaitQueue.{WaitQueue, is_alive, is_asleep, answer_due, next_id, IsFree}
use Rattle.schedule.specs.System.{Want.Turns, Want.Calls, Want.Awaits, put}
use Rattle.schedule.specs.Machine.{Thread.Absent, Thread.Runs, Thread.Over, Thread.Leaves, Thread.Left}
use Rattle.schedule.proofs.Basics.{put-other, at_each}
use Rattle.interp_machine.specs.Program.{Program}
use Rattle.schedule_runs.proofs.Dues.{none_due}
use Rattle.interp_trait.specs.Turns.{Running, wants_of, IsHere}
use Rattle.schedule_machine.specs.Runs.{IsOrderly}

-- no answer is due
pub nothing_due : (p : Program) (q : WaitQueue) (f : ℕ → Running) → IsOrderly p q f → (m : ℕ) → answer_due q m ≡ None
nothing_due p q f orderly m = subst (λ z. answer_due z m ≡ None) orderly.heard (none_due q m)

-- who isn't there wants nothing, and who asks or goes on is there
pub calls_here : (p : Program) (t : Running) (e : Event) → wants_of p t ≡ Calls e → IsHere t
calls_here p Absent e w = absurd (cc w)
calls_here p (Runs c left) e w = tt
calls_here p (Over o left) e w = tt
calls_here p (Leaves o left) e w = absurd (cc w)
calls_here p (Left o left) e w = absurd (cc w)

pub turns_here : (p : Program) (t : Running) → wants_of p t ≡ Turns → IsHere t
turns_here p Absent w = absurd (cc w)
turns_here p (Runs c left) w = tt
turns_here p (Over o left) w = tt
turns_here p (Leaves o left) w = absurd (cc w)
turns_here p (Left o left) w = absurd (cc w)

not_absent : (t : Running) → IsHere t → t ≡ Absent → ⊥
not_absent t h is = subst IsHere is h

-- the asker of a question is free for it
pub free_asker : (p : Program) (q : WaitQueue) (f : ℕ → Running) (n : ℕ) (e : Event) → IsOrderly p q f → wants_of p (f n) ≡ Calls e → IsFree q n
free_asker p q f n e orderly calls = record {
  alive = orderly.living n (calls_here p (f n) e calls);
  awake = false_from_ne_true (is_asleep q n) (λ asleep. let w : wants_of p (f n) ≡ Awaits = orderly.awaiting n asleep in absurd (cc (calls, w)));
  told = nothing_due p q f orderly n;
}

-- a thread that doesn't await an answer goes on
pub orderly_put : (p : Program) (q : WaitQueue) (f : ℕ → Running) (n : ℕ) (t : Running) → IsOrderly p q f
    → IsHere (f n) → (wants_of p (f n) ≡ Awaits → ⊥) → IsOrderly p q (put f n t)
orderly_put p q f n t orderly here awake = record {
  sound = orderly.sound;
  dues = orderly.dues;
  heard = orderly.heard;
  unstarted = at_each n (λ m. next_id q ≤ m → put f n t m ≡ Absent)
      (λ past. absurd (not_absent (f n) here (orderly.unstarted n past)))
      (λ m apart past. put-other f n t m apart ∙ orderly.unstarted m past);
  living = at_each n (λ m. IsHere (put f n t m) → is_alive q m ≡ true)
      (λ h. orderly.living n here)
      (λ m apart h. orderly.living m (subst IsHere (put-other f n t m apart) h));
  awaiting = at_each n (λ m. is_asleep q m ≡ true → wants_of p (put f n t m) ≡ Awaits)
      (λ asleep. absurd (awake (orderly.awaiting n asleep)))
      (λ m apart asleep. ap (wants_of p) (put-other f n t m apart) ∙ orderly.awaiting m asleep);
}

-- threads that are the same, one by one
pub orderly_same : (p : Program) (q : WaitQueue) (f g : ℕ → Running) → ((m : ℕ) → g m ≡ f m) → IsOrderly p q f → IsOrderly p q g
orderly_same p q f g same orderly = record {
  sound = orderly.sound;
  dues = orderly.dues;
  heard = orderly.heard;
  unstarted = λ m past. same m ∙ orderly.unstarted m past;
  living = λ m h. orderly.living m (subst IsHere (same m) h);
  awaiting = λ m asleep. ap (wants_of p) (same m) ∙ orderly.awaiting m asleep;
}
