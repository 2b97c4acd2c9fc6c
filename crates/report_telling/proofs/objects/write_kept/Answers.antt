use Rattle.std.proofs.Common.{None}
use Rattle.std.proofs.lemmas.Result.{IfOk-weaker}
use Rattle.report_jobs.specs.Prints.{changed}
use Rattle.report_json.specs.declared.drawn.DrawnEnd.TheVariants.{Found}
use Rattle.report_telling.specs.SearchObjects.{WritesKept, WritesTable}
use Rattle.report_telling.proofs.objects.write_kept.Goals as goal

pub returns-clause-written : goal.returns-clause-written
returns-clause-written g c =
    let s = c.args.drawn.sought.now in
    let table = c.args.drawn.table.now in
    let out = changed g.W.Write.contents c.args.out.now c.write_drawn_runs.new.out in
    IfOk-weaker c.write_drawn_runs.result (λ _. WritesTable s table 1 None (Found c.found_of.result) out)
    (λ _. WritesKept s table c.args.kept.now out) (λ _ written. (c.found_of.result, c.found_of.ensures, written))
    c.write_drawn_runs.ensures.written
