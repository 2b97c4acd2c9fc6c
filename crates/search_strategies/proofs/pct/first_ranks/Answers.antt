use Rattle.std.proofs.Common.{arith}
use Rattle.search_strategies.proofs.Drawing.{in_a_row}
use Rattle.search_strategies.proofs.pct.first_ranks.Goals as goal

pub returns : goal.returns
returns c =
    in_a_row c.loop-place.rank-items 2147483681 64 (omega arith) (λ k less. c.loop-place.invariant k (omega arith))
