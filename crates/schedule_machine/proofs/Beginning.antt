-- At first thread 0 alone is there.
use Rattle.std.proofs.Common.{◌≡◌, ℕ, true, refl, subst, arith}
use Rattle.types.specs.declared.limits.TheConstants.{MOST_THREADS}
use Rattle.shared_memory.specs.WaitQueue.{first_queue, is_alive, next_id}
use Rattle.shared_memory.proofs.Soundness.{IsSound-first}
use Rattle.schedule.specs.Machine.{Thread.Absent}
use Rattle.schedule.proofs.Basics.{put-other, at_each}
use Rattle.interp_machine.specs.Program.{Program}
use Rattle.interp_trait.specs.Turns.{Running, IsHere}
use Rattle.schedule_machine.specs.Runs.{IsOrderly, first_thread}

pub next_first : (most : ℕ) → next_id (first_queue most) ≡ 1
unfolding first_queue
next_first most = refl

pub orderly_first : (p : Program) (t : Running) → IsOrderly p (first_queue MOST_THREADS) (first_thread t)
unfolding first_queue
orderly_first p t = record {
  sound = IsSound-first;
  dues = refl;
  heard = refl;
  unstarted = λ m past. put-other (λ (k : ℕ). Absent) 0 t m (λ e. absurd (omega (arith, past, e)));
  living = at_each 0 (λ m. IsHere (first_thread t m) → is_alive (first_queue MOST_THREADS) m ≡ true) (λ h. refl)
      (λ m apart h. absurd (subst IsHere (put-other (λ (k : ℕ). Absent) 0 t m apart) h));
  awaiting = λ m asleep. absurd (cc asleep);
}
