use Rattle.std.proofs.Common.{◌≡◌, true, List, subst}
use Rattle.std.proofs.lemmas.Result.{on_ok_weaker}
use Rattle.types.specs.declared.event.Entry.{Entry}
use Rattle.show_rows.specs.Listing.{IsStoryOf}
use Rattle.report_looks.proofs.printing.print_waits.Goals as goal

pub returns : goal.returns
returns g c =
    let story = c.in_ok-story.story in
    let wanted : c.args.is_wanted ≡ true = cc (c.if-not-is_wanted.false) in
    rw wanted (on_ok_weaker c.write_waits.result
    (λ writes. (story, subst (λ (l : List Entry). IsStoryOf l story) c.as_slice.ensures c.in_ok-story.ensures, writes))
    c.write_waits.ensures)
