use Rattle.std.proofs.Common.{◌∙◌, ℕ, List, subst}
use Rattle.std.specs.List.{AllZip}
use Rattle.types.specs.declared.event.Entry.{Entry}
use Rattle.show_rows.specs.Listing.{IsStoryOf}
use Rattle.report_objects.specs.RaceObjects.{IsNamedRowAt}
use Rattle.report_objects.proofs.ObjectRows.{object_of_rows}
use Rattle.report_objects.proofs.objects.write_entries.Goals as goal

pub returns : goal.returns
returns g c =
    let story = c.in_ok-story.story in
    let rows = c.in_ok-write_places.ensures in
    record {
      story = story;
      is_story = subst (λ (l : List Entry). IsStoryOf l story) c.as_slice.ensures c.in_ok-story.ensures;
      rows = rows.0;
      each = subst (λ (ps : List ℕ). AllZip (IsNamedRowAt c.args.shown c.args.map.now story) ps rows.0)
          (c.as_slice-2.ensures.value ∙ c.in_ok-places.ensures.which) rows.1;
      object = object_of_rows rows.0 _ _ _ _ c.in_ok-begin_rows.ensures rows.2 c.in_ok-end_rows.ensures;
    }
