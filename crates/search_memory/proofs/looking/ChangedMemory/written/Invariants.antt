use Rattle.std.proofs.Common.{◌≡◌, ◌+◌, ◌-◌, ◌++◌, filter}
use Rattle.std.specs.List.{splice}
use Rattle.shared_memory.specs.Numbers.{le_bytes}
use Rattle.search_memory.specs.Memories.{changed_bytes, is_since, memory_at, AreDifferences, HasDifferences}
use Rattle.search_memory.proofs.Putting.{AreBelow}
use Rattle.search_memory.proofs.looking.ChangedMemory.written.Given as goal

abbrev pub invariant-loop-i : goal.invariant-loop-i
invariant-loop-i l = record {
  below : AreBelow (l.addr + l.i) l.changes.items;
  bytes : splice (changed_bytes l.self.opening.now l.self.changed.now.len
      (l.changes.items ++ filter (is_since (l.addr + l.i)) l.self.changed.now.changes.items)) (l.addr + l.i) (l.addr + l.width)
      (le_bytes (l.width - l.i) l.rest)
      ≡ splice (memory_at l.self).bytes l.addr (l.addr + l.width) (le_bytes l.width l.value);
  differences : HasDifferences l.self.opening.now l.self.changed.now → AreDifferences l.self.opening.now 0 (l.addr + l.i) l.changes.items;
}
