use Rattle.std.proofs.Common.{sym, subst}
use Rattle.std.specs.Prelude.{IfOk}
use Rattle.report_command.specs.declared.form.Form.TheVariants.{Json}
use Rattle.report_jobs.specs.Prints.{changed}
use Rattle.report_telling.specs.Telling.{CanConclude, Concludes, IsSoAtEnd}
use Rattle.report_telling.specs.declared.telling.Conclusion.{Conclusion}
use Rattle.report_telling.proofs.objects.ObjectTellerTeller.conclude.Goals as goal

pub write_all-requires : goal.write_all-requires
write_all-requires g c = subst CanConclude c.in-Orders.is c.requires

pub write_kept-requires : goal.write_kept-requires
write_kept-requires g c = subst CanConclude c.in-Last.is c.requires

pub write_racy-requires-clause-cut : goal.write_racy-requires-clause-cut
write_racy-requires-clause-cut g c = (subst CanConclude c.in-Racy.is c.requires).0

pub write_racy-requires-clause-told : goal.write_racy-requires-clause-told
write_racy-requires-clause-told g c = (subst CanConclude c.in-Racy.is c.requires).1

pub write_none-requires : goal.write_none-requires
write_none-requires g c = subst CanConclude c.in-None.is c.requires

pub returns-in-Orders-clause-tells : goal.returns-in-Orders-clause-tells
returns-in-Orders-clause-tells g c m so =
    let out = changed g.W.Write.contents c.args.out.now c.write_all.new.out in
    subst (λ (end : Conclusion). IfOk c.write_all.result (λ _. Concludes Json m end out)) (sym c.in-Orders.is)
    (c.write_all.ensures.written m (subst (IsSoAtEnd m) c.in-Orders.is so))

pub returns-in-Last-clause-tells : goal.returns-in-Last-clause-tells
returns-in-Last-clause-tells g c m so =
    let out = changed g.W.Write.contents c.args.out.now c.write_kept.new.out in
    subst (λ (end : Conclusion). IfOk c.write_kept.result (λ _. Concludes Json m end out)) (sym c.in-Last.is) c.write_kept.ensures.written

pub returns-in-Racy-clause-tells : goal.returns-in-Racy-clause-tells
returns-in-Racy-clause-tells g c m so =
    let out = changed g.W.Write.contents c.args.out.now c.write_racy.new.out in
    subst (λ (end : Conclusion). IfOk c.write_racy.result (λ _. Concludes Json m end out)) (sym c.in-Racy.is)
    (c.write_racy.ensures.written m (subst (IsSoAtEnd m) c.in-Racy.is so))

pub returns-in-None-clause-tells : goal.returns-in-None-clause-tells
returns-in-None-clause-tells g c m so =
    let out = changed g.W.Write.contents c.args.out.now c.write_none.new.out in
    subst (λ (end : Conclusion). IfOk c.write_none.result (λ _. Concludes Json m end out)) (sym c.in-None.is) c.write_none.ensures.written
