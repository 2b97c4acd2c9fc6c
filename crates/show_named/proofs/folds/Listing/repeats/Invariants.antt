use Rattle.std.proofs.Common.{take}
use Rattle.show_named.specs.Folds.{Repeats}
use Rattle.show_named.proofs.folds.Listing.repeats.Given as goal

abbrev pub invariant-loop-at : goal.invariant-loop-at
invariant-loop-at l = Repeats l.self.shown l.self.map.now l.self.story.now (take l.at l.first) (take l.at l.next)
