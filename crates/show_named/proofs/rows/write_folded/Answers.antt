use Rattle.std.proofs.Common.{◌∙◌, ℕ, List, subst}
use Rattle.types.specs.declared.event.Entry.{Entry}
use Rattle.show_rows.specs.Listing.{IsStoryOf}
use Rattle.show_named.specs.Folds.{AddsFolded}
use Rattle.show_named.proofs.Folded.{flushed_folded}
use Rattle.show_named.proofs.rows.write_folded.Goals as goal

pub returns : goal.returns
returns g c =
    let story = c.in_ok-story.story in (
      story,
      subst (λ (l : List Entry). IsStoryOf l story) c.as_slice.ensures c.in_ok-story.ensures,
      subst (λ (ats : List ℕ). AddsFolded c.args.shown c.args.map.now story ats (g.W.Write.contents c.args.out.now)
          (g.W.Write.contents c.flush.new.self))
          (c.as_slice-2.ensures.value ∙ c.in_ok-chosen.ensures.which)
          (flushed_folded c.args.shown c.args.map.now story c.as_slice-2.result.now _ _ _ c.in_ok-write_parts.ensures
          c.in_ok-flush.ensures.bytes),
    )
