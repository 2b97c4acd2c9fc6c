use Rattle.std.proofs.Common.{◌∙◌, ap, refl}
use Rattle.std.proofs.lemmas.Result.{IfOk-weaker}
use Rattle.replay_text.specs.declared.parts.RecordParts.{RecordParts}
use Rattle.show_races.specs.Races.{Says}
use Rattle.show_races.specs.Rows.{sites_of}
use Rattle.show_races.specs.Sites.{opening_of}
use Rattle.show_races.proofs.Told.{told_of}
use Rattle.search_races.proofs.judge.is_racy_by.Goals as goal

pub returns : goal.returns
returns c =
    let m = c.args.module.now.parts in
    let r = c.args.record.now in
    let rows = c.args.rows.now in
    let code = c.in_ok-code.code in
    let shown = c.parts-2.result.now in
    IfOk-weaker c.is_racy.result _ (Says r.log (sites_of c.args.allowed.now m r rows) (opening_of m))
    (λ is says. told_of (λ l k o. Says l k o is) c.args.allowed.now shown.log r.log code.parts.now m rows rows
    (ap (λ (p : RecordParts). p.log) c.parts-2.ensures.parts) (c.in_ok-code.ensures.parts ∙ c.parts.ensures.parts) refl says)
    c.is_racy.ensures
