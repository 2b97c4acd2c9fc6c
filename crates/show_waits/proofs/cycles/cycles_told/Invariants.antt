use Rattle.std.proofs.Common.{length}
use Rattle.std.specs.List.{range_with_len}
use Rattle.show_waits.proofs.Cycling.{SoFar}
use Rattle.show_waits.proofs.cycles.cycles_told.Given as goal

abbrev pub invariant-loop-n : goal.invariant-loop-n
invariant-loop-n l = SoFar l.waits.items (range_with_len 0 (length l.ends)) l.n l.cycles.items
