use Rattle.std.proofs.Common.{length}
use Rattle.std.specs.List.{range_with_len}
use Rattle.show_rows.proofs.Texts.{AreWritten}
use Rattle.show_waits.specs.Waits.{SaysWait}
use Rattle.show_waits.proofs.waits.write_waits.Given as goal

abbrev pub invariant-loop-n : goal.invariant-loop-n
invariant-loop-n g l = AreWritten (SaysWait l.shown l.map l.story l.left_out) (range_with_len 0 (length l.shown.record.now.ends)) l.n
    (g.W.Write.contents l.initial.out) (g.W.Write.contents l.out)
