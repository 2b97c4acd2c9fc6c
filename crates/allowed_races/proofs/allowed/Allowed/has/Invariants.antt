use Rattle.std.proofs.Common.{◌≡◌, true}
use Rattle.allowed_races.specs.Bytes.{has_each}
use Rattle.allowed_races.proofs.allowed.Allowed.has.Given as goal

abbrev pub invariant-loop-behind : goal.invariant-loop-behind
invariant-loop-behind l = has_each l.self l.addr l.behind ≡ true
