use Rattle.std.specs.String.{string_bytes}
use Rattle.report_jobs.specs.Trapped.{IsAddedTo}
use Rattle.report_jobs.proofs.trapped.add_callers.Given as goal

abbrev pub invariant-loop-depth : goal.invariant-loop-depth
invariant-loop-depth l = IsAddedTo (string_bytes l.initial.line) (string_bytes l.line)
