use Rattle.std.proofs.Common.{[], take}
use Rattle.race_history.specs.Found.{HaveMore, IsClashOf}
use Rattle.race_history.specs.Lasts.{table}
use Rattle.race_history.proofs.found.find_clashes.Given as goal

abbrev pub invariant-loop-access : goal.invariant-loop-access
invariant-loop-access l = HaveMore [] l.places.items (IsClashOf (take l.access-index l.accesses) l.clock (table l.lasts))
