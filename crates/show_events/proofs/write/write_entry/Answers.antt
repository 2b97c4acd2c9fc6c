use Rattle.std.proofs.Common.{◌∙◌, List, subst, sym}
use Rattle.show_text.specs.declared.context.Context.{Context}
use Rattle.show_rows.specs.Listing.{IsPlaceTextOf}
use Rattle.show_events.specs.Links.{Lasts}
use Rattle.show_events.proofs.Said.{event_says}
use Rattle.show_events.proofs.write.write_entry.Goals as goal

pub returns-clause-which : goal.returns-clause-which
returns-clause-which g c =
    let place = subst (IsPlaceTextOf c.args.shown c.args.story.now c.args.at)
    (sym c.as_str-2.ensures.value) c.in_ok-place.ensures in
    let lasts = subst (λ (cs : List Context). Lasts cs c.args.at c.length_of.result) c.deref.ensures.value c.length_of.ensures in
    event_says c.args.shown c.args.story.now c.args.at c.length_of.result c.line_of.result c.as_slice-log.result.now _ c.words_at.result
    c.as_str.result.now c.as_str-2.result.now c.as_str-3.result.now _ _ c.as_slice-log.ensures c.requires.within c.words_at.ensures
    (c.as_str.ensures.value ∙ c.in_ok-words.ensures.ok) place c.line_of.ensures lasts
    (c.as_str-3.ensures.value ∙ c.in_ok-json.ensures) c.in_ok-write_line.ensures.text
