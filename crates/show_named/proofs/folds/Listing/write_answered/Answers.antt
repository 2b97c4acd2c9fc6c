use Rattle.std.proofs.Common.{◌∙◌}
use Rattle.show_named.proofs.Folded.{answered_written}
use Rattle.show_named.proofs.folds.Listing.write_answered.Goals as goal

pub returns : goal.returns
returns g c =
    let s = c.args.self.now in
    answered_written s.shown s.map.now s.story.now c.args.places.now 0 0 _ _ _ _ c.requires.answered
    (c.as_str.ensures.value ∙ c.in_ok-note.ensures.ok) c.in_ok-words.ensures c.in_ok-write_noted.ensures
