use Rattle.std.proofs.Common.{◌≡◌, fold, take}
use Rattle.search_memory.specs.Memories.{with_change}
use Rattle.search_memory.proofs.stepping.change_all.Given as goal

abbrev pub invariant-loop-one : goal.invariant-loop-one
invariant-loop-one l = l.bytes ≡ fold with_change l.initial.bytes (take l.one-index l.changes)
