use Rattle.std.proofs.Common.{◌∙◌, refl}
use Rattle.report_finds.proofs.found.endless_found.Goals as goal

pub returns-clause-has : goal.returns-clause-has
returns-clause-has c =
    let made = c.in-Ok.made in (
      record { way = c.args.run.way; path = c.as_slice-path.result; round = c.as_slice-round.result },
      (refl, λ free. c.as_slice-path.ensures.value ∙ c.in_ok-course.ensures free),
      record {
        made = made;
        made_is = refl;
        find = c.in-Ok.ensures.find;
        entries = c.entries_leading-entries.result;
        leads = c.entries_leading-entries.ensures;
        as_is = c.endless_as.ensures;
      },
    )
