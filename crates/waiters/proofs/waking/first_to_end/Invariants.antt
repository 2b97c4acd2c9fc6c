use Rattle.std.proofs.Common.{◌≡◌, map}
use mathlib.Core.List.{reverse}
use denote.Ref.{Bor}
use Rattle.shared_memory.specs.declared.sleeper.Sleeper.{Sleeper}
use Rattle.shared_memory.specs.WaitQueue.{first_to_end}
use Rattle.waiters.proofs.waking.first_to_end.Given as goal

abbrev pub invariant-loop-s : goal.invariant-loop-s
invariant-loop-s l = l.first ≡ first_to_end (reverse (map (λ (s : Bor Sleeper). s.now) l.yielded))
