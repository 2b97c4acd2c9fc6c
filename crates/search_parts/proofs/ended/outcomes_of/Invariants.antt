use Rattle.std.proofs.Common.{take}
use Rattle.search_parts.specs.Endings.{HaveLeft}
use Rattle.search_parts.proofs.ended.outcomes_of.Given as goal

abbrev pub invariant-loop-n : goal.invariant-loop-n
invariant-loop-n l = HaveLeft (take l.n l.threads) l.outcomes.items
