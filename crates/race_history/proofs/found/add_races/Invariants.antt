use Rattle.std.proofs.Common.{◌≡◌, ◌++◌, map, take}
use Rattle.race_history.specs.Found.{race_to}
use Rattle.race_history.proofs.found.add_races.Given as goal

abbrev pub invariant-loop-first : goal.invariant-loop-first
invariant-loop-first l = l.pairs.items ≡ l.initial.pairs.items ++ map (race_to l.place) (take l.first-index l.firsts)
