use Rattle.std.proofs.Common.{◌≡◌, ◌++◌, take}
use Rattle.std.specs.List.{filter_map}
use Rattle.show_events.specs.Links.{race_link}
use Rattle.show_events.proofs.links.add_races.Given as goal

abbrev pub invariant-loop-k : goal.invariant-loop-k
invariant-loop-k l = l.links.items ≡ l.initial.links.items ++ filter_map (race_link l.fn.long) (take l.k l.races)
