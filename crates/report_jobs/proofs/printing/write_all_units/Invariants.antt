use Rattle.std.proofs.Common.{take}
use Rattle.std.specs.Io.KnownBytes.{Appends}
use Rattle.report_lines.specs.Lines.{numbered}
use Rattle.report_jobs.specs.Prints.{units_line}
use Rattle.report_jobs.proofs.printing.write_all_units.Given as goal

abbrev pub invariant-loop-thread : goal.invariant-loop-thread
invariant-loop-thread g l =
    Appends (g.W.Write.contents l.initial.out) (g.W.Write.contents l.out) (numbered units_line 0 (take l.thread l.reports))
