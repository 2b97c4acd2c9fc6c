use Rattle.std.proofs.Common.{◌≡◌, ◌≤◌}
use Rattle.show_named.specs.Folds.{IsRoundsOf}
use Rattle.show_named.proofs.folds.Listing.rounds_of.Given as goal

abbrev pub invariant-loop : goal.invariant-loop
invariant-loop l = record {
  are : IsRoundsOf l.self.shown l.self.map.now l.self.story.now l.places l.rounds;
  length : l.rounds.length ≡ l.size;
  often : l.rounds.times ≤ l.rounds.count;
}
