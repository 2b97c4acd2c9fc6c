use Rattle.std.proofs.Common.{length, take}
use Rattle.std.specs.List.{AllZip, range_with_len}
use Rattle.show_waits.specs.Cycles.{IsWait}
use Rattle.show_waits.proofs.cycles.waits_of.Given as goal

abbrev pub invariant-loop-n : goal.invariant-loop-n
invariant-loop-n l = AllZip (IsWait l.log l.ends l.out) (take l.n (range_with_len 0 (length l.ends))) l.waits.items
