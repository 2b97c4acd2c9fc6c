use Rattle.std.proofs.Common.{◌≡◌, map, take}
use Rattle.show_rows.specs.Rows.{call_by}
use Rattle.show_stacks.proofs.stacks.calls_of.Given as goal

abbrev pub invariant-loop-at : goal.invariant-loop-at
invariant-loop-at l = l.calls.items ≡ map call_by (take l.at l.callers)
