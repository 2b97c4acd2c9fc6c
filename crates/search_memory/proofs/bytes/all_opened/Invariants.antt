use Rattle.std.proofs.Common.{◌≡◌, length}
use Rattle.search_memory.specs.Memories.{AreFrom}
use Rattle.search_memory.proofs.bytes.all_opened.Given as goal

abbrev pub invariant-loop-i : goal.invariant-loop-i
invariant-loop-i l = record { long : length l.bytes ≡ 8; are : AreFrom l.bytes l.i l.opening l.from }
