use Rattle.std.proofs.Common.{◌≡◌, [], replicate}
use Rattle.show_said.proofs.said.no_lines.Given as goal

abbrev pub invariant-loop-thread : goal.invariant-loop-thread
invariant-loop-thread l = l.lines.items ≡ replicate l._thread []
