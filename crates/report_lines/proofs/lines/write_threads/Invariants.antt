use Rattle.std.proofs.Common.{take}
use Rattle.std.specs.Io.KnownBytes.{Appends}
use Rattle.report_lines.specs.Lines.{thread_lines}
use Rattle.report_lines.proofs.lines.write_threads.Given as goal

abbrev pub invariant-loop-thread : goal.invariant-loop-thread
invariant-loop-thread g l = Appends (g.W.Write.contents l.initial.out) (g.W.Write.contents l.out) (thread_lines 0 (take l.thread l.reports))
