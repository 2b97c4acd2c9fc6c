use Rattle.std.proofs.Common.{◌≡◌, [], replicate}
use Rattle.show_stacks.specs.Stacks.{lists}
use Rattle.show_stacks.proofs.stacks.no_calls.Given as goal

abbrev pub invariant-loop : goal.invariant-loop
invariant-loop l = lists l.calls.items ≡ replicate l.counter []
