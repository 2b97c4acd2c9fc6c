use Rattle.std.proofs.Common.{sym, subst}
use Rattle.std.specs.Prelude.{IfOk}
use Rattle.report_command.specs.declared.form.Form.TheVariants.{Lines}
use Rattle.report_jobs.specs.Prints.{changed}
use Rattle.report_telling.specs.Telling.{CanConclude, Concludes, IsSoAtEnd}
use Rattle.report_telling.specs.declared.telling.Conclusion.{Conclusion}
use Rattle.report_telling.proofs.lines.LinesTellerTeller.conclude.Goals as goal

pub write_racy-requires : goal.write_racy-requires
write_racy-requires g c = (subst CanConclude c.in-Racy.is c.requires).1

pub returns-in-Racy-clause-tells : goal.returns-in-Racy-clause-tells
returns-in-Racy-clause-tells g c m so =
    let out = changed g.W.Write.contents c.args.out.now c.write_racy.new.out in
    subst (λ (end : Conclusion). IfOk c.write_racy.result (λ _. Concludes Lines m end out)) (sym c.in-Racy.is)
    (c.write_racy.ensures.tells m (subst (IsSoAtEnd m) c.in-Racy.is so))
