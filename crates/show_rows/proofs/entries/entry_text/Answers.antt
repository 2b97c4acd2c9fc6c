use Rattle.std.proofs.Common.{subst, sym}
use Rattle.show_rows.specs.Listing.{IsPlaceTextOf}
use Rattle.show_rows.proofs.Saying.{entry_says}
use Rattle.show_rows.proofs.entries.entry_text.Goals as goal

pub returns : goal.returns
returns c = entry_says c.args.shown c.args.story.now c.args.at c.as_slice.result.now _ c.words_at.result _ c.as_str.result.now _ c.line_of-line.result
    c.as_slice.ensures c.requires c.words_at.ensures c.line_of-line.ensures c.in_ok-words.ensures.ok
    (subst (IsPlaceTextOf c.args.shown c.args.story.now c.args.at) (sym c.as_str.ensures.value) c.in_ok-place.ensures)
    c.in_ok-text.ensures.ok
