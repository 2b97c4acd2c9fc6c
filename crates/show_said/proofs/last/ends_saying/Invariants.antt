use Rattle.std.proofs.Common.{◌≡◌, take}
use Rattle.show_said.specs.Last.{ends_saying}
use Rattle.show_said.proofs.last.ends_saying.Given as goal

abbrev pub invariant-loop-entry : goal.invariant-loop-entry
invariant-loop-entry l = l.says ≡ ends_saying l.ports (take l.entry-index l.log) l.thread
