use Rattle.std.proofs.Common.{take}
use Rattle.std.specs.Io.KnownBytes.{Appends}
use Rattle.std.specs.List.{flat_map}
use Rattle.report_telling.specs.Drawn.{table_line}
use Rattle.report_telling.proofs.table.write_table.Given as goal

abbrev pub invariant-loop-met : goal.invariant-loop-met
invariant-loop-met g l = Appends (g.W.Write.contents l.initial.out) (g.W.Write.contents l.out)
    (flat_map (table_line l.drawn.sought.now l.drawn.table.now.runs) (take l.met-index l.rows))
