use Rattle.std.proofs.Common.{◌≡◌, length, take}
use Rattle.search_memory.specs.Memories.{changed_bytes, AreFrom}
use Rattle.search_memory.proofs.bytes.bytes_at.Given as goal

abbrev pub invariant-loop-one : goal.invariant-loop-one
invariant-loop-one l = record {
  long : length l.bytes ≡ 8;
  are : AreFrom l.bytes l.width (changed_bytes l.opening l.len (take l.one-index l.changes)) l.from;
}
