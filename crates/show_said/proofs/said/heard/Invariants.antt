use Rattle.std.proofs.Common.{◌≡◌, ◌++◌, length, drop}
use Rattle.show_said.specs.Said.{said, said_from}
use Rattle.show_said.proofs.said.heard.Given as goal

abbrev pub invariant-loop-at : goal.invariant-loop-at
invariant-loop-at l = record {
  long : length l.lines.items ≡ length l.ports;
  said : l.said.items ++ said_from l.ports l.first l.at l.lines.items (drop l.at l.log) ≡ said l.ports l.first l.log;
}
