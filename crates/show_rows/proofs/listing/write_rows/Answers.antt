use Rattle.std.proofs.Common.{◌∙◌, ℕ, List, subst}
use Rattle.types.specs.declared.event.Entry.{Entry}
use Rattle.show_rows.specs.Listing.{AddsEntries, IsStoryOf}
use Rattle.show_rows.proofs.Chosen.{flushed}
use Rattle.show_rows.proofs.listing.write_rows.Goals as goal

pub returns : goal.returns
returns g c = (
  c.in_ok-story.story,
  subst (λ (l : List Entry). IsStoryOf l c.in_ok-story.story) c.as_slice.ensures c.in_ok-story.ensures,
  subst (λ (ats : List ℕ). AddsEntries c.args.shown c.in_ok-story.story ats (g.W.Write.contents c.args.out.now) (g.W.Write.contents c.flush.new.self))
      (c.as_slice-2.ensures.value ∙ c.in_ok-chosen.ensures.which)
      (flushed c.args.shown c.in_ok-story.story c.as_slice-2.result.now _ _ _ c.in_ok-write_entries.ensures c.in_ok-flush.ensures.bytes),
)
