use Rattle.std.proofs.Common.{◌≡◌, [], take}
use Rattle.std.specs.List.{fold}
use Rattle.race_history.specs.Lasts.{table}
use Rattle.race_history.specs.Writers.{with_writer}
use Rattle.race_history.proofs.writers.writers_in.Given as goal

abbrev pub invariant-loop-access : goal.invariant-loop-access
invariant-loop-access l = l.found.items ≡ fold (with_writer (table l.lasts)) [] (take l.access-index l.accesses)
