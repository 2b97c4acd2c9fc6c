use Rattle.std.specs.Prelude.{◌≡◌, map, take}
use Rattle.wathread_c.specs.Given.{value_by}
use Rattle.wathread_c.proofs.given.values_of.Given as goal

abbrev pub invariant-loop-n : goal.invariant-loop-n
invariant-loop-n l = l.values.items ≡ map value_by (take l.n l.words)
