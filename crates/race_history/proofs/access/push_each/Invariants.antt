use Rattle.std.proofs.Common.{◌≡◌, ◌++◌}
use Rattle.race_history.specs.Accesses.{each_byte}
use Rattle.race_history.proofs.access.push_each.Given as goal

abbrev pub invariant-loop-behind : goal.invariant-loop-behind
invariant-loop-behind l = l.made.items ≡ l.initial.made.items ++ each_byte l.access l.behind
