use Rattle.std.proofs.Common.{length}
use Rattle.std.specs.List.{range_with_len}
use Rattle.show_rows.proofs.Texts.{AreWritten}
use Rattle.show_waits.specs.CycleTexts.{SaysCycle}
use Rattle.show_waits.proofs.cycle_texts.write_cycles.Given as goal

abbrev pub invariant-loop-n : goal.invariant-loop-n
invariant-loop-n g l = AreWritten (SaysCycle l.waits.items) (range_with_len 0 (length l.shown.record.now.ends)) l.n
    (g.W.Write.contents l.initial.out) (g.W.Write.contents l.out)
