use Rattle.std.proofs.Common.{List, subst}
use Rattle.std.proofs.lemmas.Result.{on_ok_weaker}
use Rattle.types.specs.declared.event.Entry.{Entry}
use Rattle.types.specs.declared.outcome.ThreadReport.{ThreadReport}
use Rattle.show_moments.specs.Scenes.{seen_by}
use Rattle.show_rows.specs.Listing.{IsStoryOf}
use Rattle.report_objects.specs.Ends.{AreEnds, WritesEndIn}
use Rattle.report_objects.specs.declared.ends.ToldEnd.{ToldEnd}
use Rattle.report_objects.proofs.ends.write_end.Goals as goal

pub returns-clause-says : goal.returns-clause-says
returns-clause-says g c =
    let story = c.in_ok-story.story in
    let s = seen_by c.args.view story c.args.moment.now in
    let ends = c.in_ok-ends.ends.items in
    on_ok_weaker c.write_told.result (λ wrote. record {
      story = story;
      of_log = subst (λ (l : List Entry). IsStoryOf l story) c.as_slice.ensures c.in_ok-story.ensures;
      ends = ends;
      are_ends = subst (λ (rs : List ThreadReport). AreEnds s rs ends) c.as_slice-2.ensures c.in_ok-ends.ensures;
      writes = subst (λ (es : List ToldEnd). WritesEndIn c.args.form s es (g.W.Write.contents c.args.out.now)
          (g.W.Write.contents c.write_told.new.out)) c.as_slice-3.ensures.value wrote;
    }) c.write_told.ensures
