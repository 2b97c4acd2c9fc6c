use Rattle.std.proofs.Common.{List, subst}
use Rattle.std.proofs.lemmas.Result.{on_ok_weaker}
use Rattle.types.specs.declared.event.Entry.{Entry}
use Rattle.show_rows.specs.Listing.{IsStoryOf}
use Rattle.report_objects.proofs.scenes.write_scene.Goals as goal

pub returns-clause-says : goal.returns-clause-says
returns-clause-says g c =
    let story = c.in_ok-story.story in
    on_ok_weaker c.write_seen.result (λ told. record {
      story = story;
      of_log = subst (λ (l : List Entry). IsStoryOf l story) c.as_slice.ensures c.in_ok-story.ensures;
      told = told;
    }) c.write_seen.ensures
