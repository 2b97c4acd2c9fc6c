use Rattle.std.proofs.Common.{take}
use Rattle.std.specs.Io.KnownBytes.{Appends}
use Rattle.report_lines.specs.Lines.{numbered}
use Rattle.report_lines.specs.Endings.{thread_part}
use Rattle.report_lines.proofs.endings.write_thread_parts.Given as goal

abbrev pub invariant-loop-thread : goal.invariant-loop-thread
invariant-loop-thread g l = Appends (g.W.Write.contents l.initial.out) (g.W.Write.contents l.out)
    (numbered thread_part 0 (take l.thread l.outcomes))
