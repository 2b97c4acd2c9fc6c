use Rattle.std.proofs.Common.{take, All}
use Rattle.show_named.specs.Folds.{IsBy}
use Rattle.show_named.proofs.folds.Listing.are_by.Given as goal

abbrev pub invariant-loop-at : goal.invariant-loop-at
invariant-loop-at l = All (IsBy l.self.shown l.thread) (take l.at l.places)
