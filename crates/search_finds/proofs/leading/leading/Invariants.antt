use Rattle.std.proofs.Common.{◌≡◌, ◌+◌}
use Rattle.search_finds.specs.Leading.{events_among}
use Rattle.search_finds.proofs.leading.leading.Given as goal

abbrev pub invariant-loop-count : goal.invariant-loop-count
invariant-loop-count l = events_among l.log l.count + l.left ≡ l.events
