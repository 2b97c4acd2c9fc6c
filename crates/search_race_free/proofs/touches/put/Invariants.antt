use Rattle.std.proofs.Common.{◌-◌, ◌≤◌, length}
use Rattle.search_race_free.proofs.touches.put.Given as goal

abbrev pub invariant-loop-at : goal.invariant-loop-at
invariant-loop-at l = record { within : l.at ≤ length l.touches.items }

abbrev pub decreases-loop-at : goal.decreases-loop-at
decreases-loop-at l = length l.touches.items - l.at
