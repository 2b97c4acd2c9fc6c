use Rattle.std.proofs.Common.{take}
use Rattle.std.specs.List.{AllZip}
use Rattle.show_moments.specs.Moments.{StandsIn}
use Rattle.show_moments.proofs.moment.standings.Given as goal

abbrev pub invariant-loop-n : goal.invariant-loop-n
invariant-loop-n l = AllZip StandsIn (take l.n l.threads) l.all.items
