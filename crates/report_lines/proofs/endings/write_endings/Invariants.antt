use Rattle.std.proofs.Common.{take}
use Rattle.std.specs.Io.KnownBytes.{Appends}
use Rattle.report_lines.specs.Endings.{ending_lines}
use Rattle.report_lines.proofs.endings.write_endings.Given as goal

abbrev pub invariant-loop-ending : goal.invariant-loop-ending
invariant-loop-ending g l = Appends (g.W.Write.contents l.initial.out) (g.W.Write.contents l.out)
    (ending_lines (take l.ending-index l.endings))
