use Rattle.std.proofs.Common.{◌≡◌, ◌++◌, take, vec_capacity}
use Rattle.report_runs.proofs.recording.copy_reports.Given as goal

abbrev pub invariant-loop-report : goal.invariant-loop-report
invariant-loop-report l =
    record {
      items : l.ends.items ≡ l.initial.ends.items ++ take l.report-index l.reports;
      capacity : vec_capacity l.ends ≡ vec_capacity l.initial.ends;
    }
