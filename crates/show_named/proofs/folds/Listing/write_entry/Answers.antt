use Rattle.show_named.proofs.Saying.{plain_entry}
use Rattle.show_named.proofs.folds.Listing.write_entry.Goals as goal

pub returns : goal.returns
returns g c =
    let s = c.args.self.now in
    plain_entry s.shown s.map.now s.story.now c.args.at _ _ c.in_ok-write_noted.ensures
