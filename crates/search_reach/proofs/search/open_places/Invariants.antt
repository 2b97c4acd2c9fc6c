use Rattle.std.proofs.Common.{◌≤◌}
use Rattle.search_reach.specs.Stack.{IsOpened}
use Rattle.search_reach.proofs.search.open_places.Given as goal

abbrev pub invariant-loop-place : goal.invariant-loop-place
invariant-loop-place l = record {
  since : l.from ≤ l.place;
  opened : IsOpened l.fn.stack.items l.from l.place l.stack.items;
}
