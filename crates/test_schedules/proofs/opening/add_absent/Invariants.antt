use Rattle.std.proofs.Common.{◌≡◌, ℕ, ◌+◌, ◌≤◌, All, length, vec_len, vec_capacity}
use Rattle.schedule.specs.Machine.{Thread.Absent}
use Rattle.interp_trait.specs.Turns.{Running}
use Rattle.schedule_machine.specs.Threads.{Setting}
use Rattle.schedule_program.specs.Threads.{IsPrepared}
use Rattle.schedule_program.specs.Runs.{AreThreads}
use Rattle.test_schedules.proofs.opening.add_absent.Given as goal

abbrev pub invariant-loop-thread : goal.invariant-loop-thread
invariant-loop-thread g l =
    let m = g.T.TakesTurns in record {
      room : vec_len l.threads + vec_len l.spawned ≤ vec_capacity l.threads;
      count : length l.threads.items + length l.spawned.items ≡ length l.initial.threads.items + length l.initial.spawned.items;
      more : length l.initial.threads.items ≤ length l.threads.items;
      prepared : (s : Setting) → All (IsPrepared m.meaning s) l.initial.spawned.items → All (IsPrepared m.meaning s) l.spawned.items;
      threads :
          (s : Setting) (f : ℕ → Running) → All (IsPrepared m.meaning s) l.initial.spawned.items → AreThreads m.meaning s l.initial.threads.items f
          → ((k : ℕ) → length l.initial.threads.items ≤ k → f k ≡ Absent) → AreThreads m.meaning s l.threads.items f;
    }

abbrev pub decreases-loop-thread : goal.decreases-loop-thread
decreases-loop-thread g l = vec_len l.spawned
