use Rattle.std.proofs.Common.{◌≡◌, ◌+◌, ◌≤◌, ◌++◌, length, map, take, vec_len, vec_capacity}
use Rattle.schedule.specs.System.{State}
use Rattle.schedule.specs.Scheduled.{entries_made, scheduled_run}
use Rattle.schedule_threads.specs.Shared.{Shared}
use Rattle.interp_trait.specs.Turns.{Running}
use Rattle.schedule_machine.specs.Threads.{Setting}
use Rattle.schedule_machine.specs.Runs.{system_by}
use Rattle.schedule_program.specs.Runs.{IsAt, as_entries, mark_of}
use Rattle.schedule_program.proofs.stepping.Machine.step_along.Given as goal

abbrev pub invariant-loop-mark : goal.invariant-loop-mark
invariant-loop-mark g l =
    let m = g.T.TakesTurns in record {
      state :
          (s : Setting) (w : State Shared Running) → IsAt m.meaning s l.initial.self w
          → IsAt m.meaning s l.self (scheduled_run (system_by s) w (map mark_of (take l.mark-index l.marks)));
      entries :
          (s : Setting) (w : State Shared Running) → IsAt m.meaning s l.initial.self w
          → l.entries.items ≡ l.initial.entries.items ++ as_entries (entries_made (system_by s) w (map mark_of (take l.mark-index l.marks)));
      room : vec_len l.entries + length l.marks ≤ vec_capacity l.entries + l.mark-index;
    }
