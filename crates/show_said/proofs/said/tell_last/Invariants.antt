use Rattle.std.proofs.Common.{◌≡◌, ◌++◌, drop}
use Rattle.show_said.specs.Said.{said_last}
use Rattle.show_said.proofs.said.tell_last.Given as goal

abbrev pub invariant-loop-thread : goal.invariant-loop-thread
invariant-loop-thread l =
    l.said.items ++ said_last l.thread l.line (drop l.thread l.lines) ≡ l.initial.said.items ++ said_last 0 l.line l.lines
