use Rattle.std.proofs.Common.{◌∙◌, sym, subst}
use Rattle.report_jobs.specs.Prints.{changed}
use Rattle.report_telling.specs.declared.racing.Raced.{Raced}
use Rattle.report_finds.specs.Racing.{KeepsRaced}
use Rattle.report_finds.proofs.Meeting.{if_on}
use Rattle.report_finds.proofs.found.keep_raced.Goals as goal

pub returns-in-Run-clause-kept : goal.returns-in-Run-clause-kept
returns-in-Run-clause-kept g c =
    let s = c.args.search.now in
    let save = changed g.S.Write.contents c.args.save.now c.keep.new.save in
    if_on c.keep.result (λ kept. subst (λ (raced : Raced). KeepsRaced s raced save) (sym c.in-Run.is)
    (λ wanted. kept (c.keeps_race.ensures ∙ wanted))) c.keep.ensures.kept
