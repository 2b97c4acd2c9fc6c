use Rattle.std.proofs.Common.{sym, subst}
use Rattle.std.proofs.lemmas.Result.{IfOk-weaker}
use Rattle.report_json.specs.declared.raced.RunRaces.TheVariants as said
use Rattle.report_jobs.specs.Prints.{changed}
use Rattle.std.specs.Prelude.{Some, IfOk}
use Rattle.report_telling.specs.Racing.{IsRacedIn}
use Rattle.report_telling.specs.declared.racing.Raced.{Raced}
use Rattle.report_telling.specs.declared.racing.Raced.TheVariants as raceds
use Rattle.report_telling.specs.SearchObjects.{WritesTold, WritesWith}
use Rattle.report_telling.proofs.objects.write_all.Goals as goal

pub returns-in-Run-clause-written : goal.returns-in-Run-clause-written
returns-in-Run-clause-written g c m raced =
    let told = c.args.told in
    let pair = c.pair-pair.result in
    let out = changed g.W.Write.contents c.args.out.now c.write_told.new.out in
    let run = subst (IsRacedIn m) c.in-Run.is raced in
    subst (λ (x : Raced). IfOk c.write_told.result (λ _. WritesWith m x told out)) (sym c.in-Run.is)
    (IfOk-weaker c.write_told.result (λ _. WritesTold told (Some (said.Found pair)) out)
    (λ _. WritesWith m (raceds.Run c.in-Run.run' c.in-Run.field-1) told out)
    (λ _ written. (pair, c.pair-pair.ensures m c.in-Run.run'.made.«record» run c.shown-shown.ensures, written))
    c.write_told.ensures.written)
