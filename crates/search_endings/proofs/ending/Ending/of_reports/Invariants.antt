use Rattle.std.proofs.Common.{◌≡◌, map, take}
use Rattle.search_endings.specs.Endings.{reported_outcome}
use Rattle.search_endings.proofs.ending.Ending.of_reports.Given as goal

abbrev pub invariant-loop-n : goal.invariant-loop-n
invariant-loop-n l = l.outcomes.items ≡ map reported_outcome (take l.n l.reports)
