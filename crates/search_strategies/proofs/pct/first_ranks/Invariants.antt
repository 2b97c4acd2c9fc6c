use Rattle.std.proofs.Common.{◌≡◌, ◌+◌, ◌<◌, ℕ, get_or}
use Rattle.search_strategies.specs.Priorities.{base_rank}
use Rattle.search_strategies.proofs.pct.first_ranks.Given as goal

abbrev pub invariant-loop-place : goal.invariant-loop-place
invariant-loop-place l = (k : ℕ) → k < l.place → get_or l.rank-items k 0 ≡ base_rank + 33 + k
