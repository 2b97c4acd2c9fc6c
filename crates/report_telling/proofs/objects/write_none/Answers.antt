use Rattle.std.proofs.Common.{◌∙◌, ap, subst}
use Rattle.std.specs.Prelude.{IfOk}
use Rattle.report_json.specs.declared.drawn.DrawnEnd.{DrawnEnd}
use Rattle.report_jobs.specs.Prints.{changed}
use Rattle.report_telling.specs.SearchObjects.{WritesTable, none_of}
use Rattle.report_telling.proofs.objects.write_none.Goals as goal

pub returns-clause-written : goal.returns-clause-written
returns-clause-written g c =
    let none = c.args.none in
    let out = changed g.W.Write.contents c.args.out.now c.write_drawn_runs.new.out in
    subst (λ (halt : DrawnEnd). IfOk c.write_drawn_runs.result
    (λ _. WritesTable c.args.drawn.sought.now c.args.drawn.table.now none.status none.races halt out))
    (c.none_of.ensures ∙ ap (none_of none.is_told) c.coverage_of.ensures) c.write_drawn_runs.ensures.written
