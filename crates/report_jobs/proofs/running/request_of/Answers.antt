use Rattle.std.proofs.Common.{refl}
use Rattle.report_jobs.proofs.Asking.{asked_by}
use Rattle.report_jobs.proofs.Calls.{fits}
use Rattle.report_jobs.proofs.running.request_of.Goals as goal

pub unreachable-requires : goal.unreachable-requires
unreachable-requires c =
    let m = c.args.module.now.parts in
    let words = c.args.words.now in
    absurd (fits m c.show_distinct.ensures words.invoke.now c.args.args.now c.requires.1 c.in-Err.field-0 c.in-Err.ensures.fault)

pub returns-clause-asked : goal.returns-clause-asked
returns-clause-asked c =
    asked_by c.args.module.now.parts c.args.words.now _ c.in-Ok.request c.args.args.now c.in-Ok.ensures.request refl c.requires refl refl
