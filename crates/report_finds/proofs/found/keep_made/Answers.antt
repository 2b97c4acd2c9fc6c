use Rattle.std.proofs.Common.{◌∙◌, Option, sym, subst}
use Rattle.search_scheduled.specs.declared.running.MadeRun.{MadeRun}
use Rattle.report_jobs.specs.Prints.{changed}
use Rattle.report_finds.specs.Found.{KeepsMade}
use Rattle.report_finds.proofs.Meeting.{if_on}
use Rattle.report_finds.proofs.found.keep_made.Goals as goal

pub returns-in-Some-clause-kept : goal.returns-in-Some-clause-kept
returns-in-Some-clause-kept g c =
    let s = c.args.search.now in
    let save = changed g.S.Write.contents c.args.save.now c.keep.new.save in
    if_on c.keep.result (λ kept. subst (λ (o : Option MadeRun). KeepsMade s o save) (sym c.in-Some.is)
    (λ wanted. kept (c.is_some.ensures ∙ wanted))) c.keep.ensures.kept
