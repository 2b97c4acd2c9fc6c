use Rattle.std.proofs.Common.{◌∙◌, refl, subst, sym}
use Rattle.show_rows.specs.Listing.{IsPlaceTextOf}
use Rattle.show_rows.proofs.Saying.{says_of}
use Rattle.show_rows.proofs.listing.write_entry.Goals as goal

pub returns : goal.returns
returns g c = (
  c.args.sheet.now.is_colored,
  _,
  says_of c.args.shown c.args.story.now c.args.at c.as_slice.result.now _ c.words_at.result _ c.as_slice.ensures c.requires
      c.words_at.ensures c.line_of-line.ensures refl (c.as_str.ensures.value ∙ c.in_ok-words.ensures.ok)
      (subst (IsPlaceTextOf c.args.shown c.args.story.now c.args.at) (sym c.as_str-2.ensures.value) c.in_ok-place.ensures),
  c.in_ok-write_row.ensures,
)
