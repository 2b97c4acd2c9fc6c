use Rattle.std.proofs.Common.{◌≡◌, ◌++◌, replicate}
use Rattle.binary.proofs.bodies.push_locals.Given as goal

abbrev pub invariant-loop : goal.invariant-loop
invariant-loop l = l.locals.items ≡ l.fn.locals.items ++ replicate l.counter l.val_type
