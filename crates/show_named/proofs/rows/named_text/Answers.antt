use Rattle.std.proofs.Common.{subst, sym}
use Rattle.show_rows.specs.Listing.{IsPlaceTextOf}
use Rattle.show_named.proofs.Saying.{says_named}
use Rattle.show_named.proofs.rows.named_text.Goals as goal

pub returns : goal.returns
returns c = (
  _,
  says_named c.args.shown c.args.map.now c.args.story.now c.args.at c.as_slice.result.now _ c.words_at-words.result
      c.line_of-line.result _ _ _ c.as_slice.ensures c.requires c.words_at-words.ensures c.line_of-line.ensures
      c.in_ok-said.ensures.ok
      (subst (IsPlaceTextOf c.args.shown c.args.story.now c.args.at) (sym c.as_str.ensures.value) c.in_ok-place.ensures)
      c.in_ok-name.ensures,
  c.in_ok-text.ensures.ok,
)
