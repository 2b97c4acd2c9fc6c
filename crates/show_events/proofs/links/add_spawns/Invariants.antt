use Rattle.std.proofs.Common.{◌≡◌, ◌++◌}
use Rattle.std.specs.List.{filter_map, range_with_len}
use Rattle.show_events.specs.Links.{spawn_link}
use Rattle.show_events.proofs.links.add_spawns.Given as goal

abbrev pub invariant-loop-at : goal.invariant-loop-at
invariant-loop-at l =
    l.links.items ≡ l.initial.links.items ++ filter_map (spawn_link l.log l.contexts l.firsts) (range_with_len 0 l.at)
