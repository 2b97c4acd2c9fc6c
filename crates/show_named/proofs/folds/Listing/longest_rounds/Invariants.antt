use Rattle.show_named.specs.Folds.{IsRoundsOf}
use Rattle.show_named.proofs.folds.Listing.longest_rounds.Given as goal

abbrev pub invariant-loop-size : goal.invariant-loop-size
invariant-loop-size l = IsRoundsOf l.self.shown l.self.map.now l.self.story.now l.places l.best
