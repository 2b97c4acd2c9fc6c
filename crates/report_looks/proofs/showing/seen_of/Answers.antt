use Rattle.report_looks.proofs.showing.seen_of.Goals as goal

pub returns-in-Err-rows_seen-clause-unfit : goal.returns-in-Err-rows_seen-clause-unfit
returns-in-Err-rows_seen-clause-unfit c =
    let read = c.in-Ok.ensures.ok in
    c.misfit.ensures.unfit c.args.module.now.parts c.in-Ok.record c.args.saved.now read.0 read.1 c.in-Err-rows_seen.ensures.fault
    c.in-Err-rows_seen.ensures.none
