use Rattle.show_named.proofs.Folded.{one_of}
use Rattle.show_named.proofs.folds.Listing.longest_rounds.Goals as goal

pub rounds_of-best-requires-clause-of_one : goal.rounds_of-best-requires-clause-of_one
rounds_of-best-requires-clause-of_one c =
    let s = c.args.self.now in
    one_of s.shown s.map.now s.story.now c.args.places.now c.requires.some
