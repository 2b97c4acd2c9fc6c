use Rattle.std.proofs.Common.{◌≡◌, map, take}
use Rattle.types.specs.Values.{type_of}
use Rattle.spawn_host.proofs.fit.fit.Given as goal

abbrev pub invariant-loop-i : goal.invariant-loop-i
invariant-loop-i l = map type_of (take l.i l.args) ≡ take l.i l.params
