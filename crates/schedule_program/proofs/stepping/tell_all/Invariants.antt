use Rattle.std.proofs.Common.{◌≡◌, ℕ, length}
use Rattle.interp_trait.specs.Turns.{Running}
use Rattle.schedule_machine.specs.Threads.{Setting}
use Rattle.schedule_machine.specs.Runs.{MayHear}
use Rattle.schedule_program.specs.Runs.{AreThreads}
use Rattle.schedule_program.proofs.Telling.{IsToldUntil, told_until}
use Rattle.schedule_program.proofs.stepping.tell_all.Given as goal

abbrev pub invariant-loop-n : goal.invariant-loop-n
invariant-loop-n g l =
    let m = g.T.TakesTurns in record {
      long : length l.threads.items ≡ length l.initial.threads.items;
      queue : IsToldUntil l.n l.initial.queue l.queue;
      threads :
          (s : Setting) (f : ℕ → Running) → AreThreads m.meaning s l.initial.threads.items f → MayHear s f l.initial.queue
          → AreThreads m.meaning s l.threads.items (told_until s f l.initial.queue l.n);
    }
