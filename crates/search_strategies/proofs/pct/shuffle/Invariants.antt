use Rattle.std.proofs.Common.{◌≡◌, ◌-◌}
use Rattle.search_strategies.specs.Priorities.{shuffled}
use Rattle.search_strategies.proofs.pct.shuffle.Given as goal

abbrev pub invariant-loop-place : goal.invariant-loop-place
invariant-loop-place l = shuffled (64 - l.place) l.place (l.ranks, l.draws) ≡ shuffled 63 1 (l.initial.ranks, l.initial.draws)
