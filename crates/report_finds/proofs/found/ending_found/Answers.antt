use Rattle.report_finds.proofs.Meeting.{one_by}
use Rattle.report_finds.proofs.found.ending_found.Goals as goal

pub returns-in-Ok-clause-has : goal.returns-in-Ok-clause-has
returns-in-Ok-clause-has c =
    let first = c.args.first in
    one_by c.args.call.request.now c.args.call.search.now first.choices.now first.number first.ending.now c.in-Ok.made
    c.in-Ok.ensures.find c.in-Ok.ensures.along c.in-Ok.ensures.ending c.in-Ok.ensures.none
