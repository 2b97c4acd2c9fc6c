use Rattle.std.proofs.Common.{◌≡◌, None, take}
use Rattle.std.specs.List.{fold}
use Rattle.race_history.specs.Writers.{later}
use Rattle.race_history.proofs.writers.latest.Given as goal

abbrev pub invariant-loop-last : goal.invariant-loop-last
invariant-loop-last l = l.latest ≡ fold (later l.access) None (take l.last-index l.list)
