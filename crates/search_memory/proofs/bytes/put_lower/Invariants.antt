use Rattle.std.proofs.Common.{◌≡◌, ◌++◌, take, filter}
use Rattle.search_memory.specs.Memories.{is_below}
use Rattle.search_memory.proofs.bytes.put_lower.Given as goal

abbrev pub invariant-loop-one : goal.invariant-loop-one
invariant-loop-one l = l.all.items ≡ l.initial.all.items ++ filter (is_below l.at) (take l.one-index l.changes)
