use Rattle.std.proofs.Common.{take}
use Rattle.std.specs.Io.KnownBytes.{Appends}
use Rattle.report_looks.specs.Saying.{is_told, said_rows}
use Rattle.report_looks.proofs.saying.write_each.Given as goal

abbrev pub invariant-loop-said : goal.invariant-loop-said
invariant-loop-said g l =
    Appends (g.W.Write.contents l.initial.out) (g.W.Write.contents l.out) (said_rows (is_told l.parts l.part) (take l.said-index l.all))
