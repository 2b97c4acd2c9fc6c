use Rattle.std.proofs.Common.{Option, sym, subst}
use Rattle.std.proofs.lemmas.Result.{IfOk-weaker}
use Rattle.report_jobs.specs.Prints.{changed}
use Rattle.report_telling.specs.declared.found.KeptRun.{KeptRun}
use Rattle.report_finds.specs.Found.{KeepsFound, KeepsMade}
use Rattle.report_finds.proofs.found.keep_found.Goals as goal

pub returns-in-Some-clause-kept : goal.returns-in-Some-clause-kept
returns-in-Some-clause-kept g c =
    let s = c.args.search.now in
    let save = changed g.S.Write.contents c.args.save.now c.keep_made.new.save in
    IfOk-weaker c.keep_made.result (λ _. KeepsMade s c.in-Some.kept.made save) (λ _. KeepsFound s c.args.kept.now save)
    (λ _ kept. subst (λ (o : Option KeptRun). KeepsFound s o save) (sym c.in-Some.is) kept) c.keep_made.ensures.kept
