use Rattle.std.proofs.Common.{List, subst}
use Rattle.std.proofs.lemmas.Result.{on_ok_weaker}
use Rattle.types.specs.declared.event.Entry.{Entry}
use Rattle.show_rows.specs.Listing.{IsStoryOf}
use Rattle.report_looks.proofs.printing.print_last.Goals as goal

pub returns-in-Lines : goal.returns-in-Lines
returns-in-Lines g c =
    let story = c.in_ok-story.story in
    rw c.in-Lines.is (on_ok_weaker c.write_last.result
    (λ writes. (story, subst (λ (l : List Entry). IsStoryOf l story) c.as_slice.ensures c.in_ok-story.ensures, writes))
    c.write_last.ensures)

pub returns : goal.returns
returns g c =
    let story = c.in_ok-story.story in
    rw c.in-Json.is (on_ok_weaker c.write_last_object.result
    (λ writes. (story, subst (λ (l : List Entry). IsStoryOf l story) c.as_slice.ensures c.in_ok-story.ensures, writes))
    c.write_last_object.ensures)
