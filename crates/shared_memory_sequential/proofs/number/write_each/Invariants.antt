use Rattle.std.proofs.Common.{◌≡◌, ◌+◌, ◌-◌}
use Rattle.std.specs.List.{splice}
use Rattle.shared_memory.specs.Numbers.{le_bytes}
use Rattle.shared_memory_sequential.proofs.number.write_each.Given as goal

abbrev pub invariant-loop-i : goal.invariant-loop-i
invariant-loop-i l =
    splice l.bytes (l.at + l.i) (l.at + l.width) (le_bytes (l.width - l.i) l.rest) ≡ splice l.initial.bytes l.at (l.at + l.width) (le_bytes l.width l.number)
