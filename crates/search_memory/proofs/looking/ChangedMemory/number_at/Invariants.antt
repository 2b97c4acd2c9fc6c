use Rattle.std.proofs.Common.{◌≡◌, ◌+◌, ◌-◌, ◌*◌, ◌^◌, ◌<◌, take, drop}
use Rattle.shared_memory.specs.Numbers.{le_number}
use Rattle.search_memory.specs.Memories.{memory_at}
use Rattle.search_memory.proofs.looking.ChangedMemory.number_at.Given as goal

abbrev pub invariant-loop-i : goal.invariant-loop-i
invariant-loop-i l = record {
  value : l.number ≡ le_number (take (l.width - l.i) (drop (l.addr + l.i) (memory_at l.self).bytes));
  small : l.number < 2 ^ (8 * (l.width - l.i));
}
