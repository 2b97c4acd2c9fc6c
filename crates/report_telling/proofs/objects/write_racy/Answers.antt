use Rattle.std.proofs.Common.{Some, refl}
use Rattle.std.proofs.lemmas.Result.{IfOk-weaker}
use Rattle.report_jobs.specs.Prints.{changed}
use Rattle.report_json.specs.declared.drawn.DrawnEnd.TheVariants.{Found}
use Rattle.report_json.specs.declared.raced.RunRaces.TheVariants as said
use Rattle.report_telling.specs.SearchObjects.{WritesRacy, WritesTable}
use Rattle.report_telling.proofs.objects.write_racy.Goals as goal

pub returns-clause-written : goal.returns-clause-written
returns-clause-written g c m racy =
    let s = c.args.drawn.sought.now in
    let table = c.args.drawn.table.now in
    let kept = c.args.kept.now in
    let pair = c.pair-pair.result in
    let out = changed g.W.Write.contents c.args.out.now c.write_drawn_runs.new.out in
    IfOk-weaker c.write_drawn_runs.result (λ _. WritesTable s table 1 (Some (said.Found pair)) (Found _) out) (λ _. WritesRacy m s table kept out)
    (λ _ written. (
      pair,
      c.pair-pair.ensures m kept.racy.made.«record» racy c.shown-shown.ensures,
      (_, record { as_is = refl; shrunk_is = refl; end_is = c.end_of.ensures }, written),
    )) c.write_drawn_runs.ensures.written
