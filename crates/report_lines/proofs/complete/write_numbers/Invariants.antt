use Rattle.std.proofs.Common.{take}
use Rattle.std.specs.List.{flat_map}
use Rattle.std.specs.Io.KnownBytes.{Appends}
use Rattle.report_lines.specs.Complete.{number_text}
use Rattle.report_lines.proofs.complete.write_numbers.Given as goal

abbrev pub invariant-loop-n : goal.invariant-loop-n
invariant-loop-n g l = Appends (g.W.Write.contents l.initial.out) (g.W.Write.contents l.out)
    (flat_map number_text (take l.n-index l.numbers))
