use Rattle.std.proofs.Common.{sym, subst}
use Rattle.std.specs.Prelude.{OnOk}
use Rattle.report_command.specs.declared.form.Form.{Form}
use Rattle.report_looks.specs.Raced.{TellsIn}
use Rattle.report_looks.proofs.racing.write_told.Goals as goal

pub returns-in-Lines : goal.returns-in-Lines
returns-in-Lines g c =
    let told = c.args.told.now in
    let contents = g.W.Write.contents in
    let before = contents c.args.out.now in
    let after = contents c.write_races.new.out in
    subst (λ (form : Form). OnOk c.write_races.result (TellsIn form c.args.shown c.args.map.now told.story told.races c.args.stacks before after)) (sym c.in-Lines.is)
    c.write_races.ensures

pub returns-in-Json : goal.returns-in-Json
returns-in-Json g c =
    let told = c.args.told.now in
    let contents = g.W.Write.contents in
    let before = contents c.args.out.now in
    let after = contents c.write_pairs.new.out in
    subst (λ (form : Form). OnOk c.write_pairs.result (TellsIn form c.args.shown c.args.map.now told.story told.races c.args.stacks before after)) (sym c.in-Json.is)
    c.write_pairs.ensures
