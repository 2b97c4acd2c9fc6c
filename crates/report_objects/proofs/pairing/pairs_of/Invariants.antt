use Rattle.std.proofs.Common.{take}
use Rattle.std.specs.List.{AllZip}
use Rattle.report_objects.specs.RaceObjects.{IsPairOf}
use Rattle.report_objects.proofs.pairing.pairs_of.Given as goal

abbrev pub invariant-loop-at : goal.invariant-loop-at
invariant-loop-at l = AllZip (IsPairOf l.shown l.story l.sites) (take l.at l.races) l.pairs.items
