use Rattle.std.proofs.Common.{◌≡◌, ◌≤◌, vec_len, vec_capacity}
use Rattle.types.specs.declared.limits.TheConstants.{MOST_THREADS}
use Rattle.schedule.specs.System.{State}
use Rattle.schedule_threads.specs.Shared.{Shared}
use Rattle.interp_trait.specs.Turns.{Running}
use Rattle.schedule_machine.specs.Threads.{Setting}
use Rattle.schedule_program.specs.Runs.{IsAt, reports_below}
use Rattle.schedule_program.proofs.stepping.Machine.reports.Given as goal

abbrev pub invariant-loop-n : goal.invariant-loop-n
invariant-loop-n g l =
    let m = g.T.TakesTurns in record {
      few : vec_len l.reports ≤ l.n;
      room : vec_capacity l.reports ≡ MOST_THREADS;
      reports : (s : Setting) (w : State Shared Running) → IsAt m.meaning s l.self w → l.reports.items ≡ reports_below l.n s.fuel w.threads;
    }
