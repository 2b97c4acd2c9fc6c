use Rattle.std.proofs.Common.{◌≡◌, ◌++◌, map, take}
use Rattle.show_stacks.specs.Stacks.{row_of}
use Rattle.show_stacks.proofs.stacks.push_rows.Given as goal

abbrev pub invariant-loop-at : goal.invariant-loop-at
invariant-loop-at l = l.rows.items ≡ l.fn.rows.items ++ map row_of (take l.at l.calls)
