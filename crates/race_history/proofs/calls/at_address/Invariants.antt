use Rattle.std.proofs.Common.{◌≡◌, ◌==◌, filter, take}
use Rattle.shared_memory.specs.declared.sleeper.Sleeper.{Sleeper}
use Rattle.race_history.proofs.calls.at_address.Given as goal

abbrev pub invariant-loop-s : goal.invariant-loop-s
invariant-loop-s l = l.found.items ≡ filter (λ (s : Sleeper). s.addr == l.addr) (take l.s-index l.sleepers)
