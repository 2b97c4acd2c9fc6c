use Rattle.std.proofs.Common.{◌∙◌, subst, sym}
use Rattle.show_rows.specs.Listing.{IsPlaceTextOf}
use Rattle.show_named.proofs.Saying.{noted, says_words}
use Rattle.show_named.proofs.folds.Listing.write_noted.Goals as goal

pub returns : goal.returns
returns g c =
    let s = c.args.self.now in
    noted s.shown s.map.now s.story.now c.args.at c.args.note.now c.args.sheet.now.is_colored c.line_of-line.result _ _ _ _ _ _
    (c.as_str.ensures.value ∙ c.in_ok-said.ensures.ok)
    (says_words s.shown s.map.now s.story.now c.args.at c.as_slice.result.now _ c.line_of-line.result _ _ c.as_slice.ensures c.requires
    c.line_of-line.ensures c.in_ok-words.ensures
    (subst (IsPlaceTextOf s.shown s.story.now c.args.at) (sym c.as_str-2.ensures.value) c.in_ok-place.ensures))
    c.in_ok-write_row.ensures
