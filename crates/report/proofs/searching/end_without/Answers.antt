use Rattle.std.proofs.Common.{Bool, subst}
use Rattle.report_jobs.specs.Prints.{changed}
use Rattle.report_telling.specs.Telling.{EndsNothing}
use Rattle.report.proofs.searching.end_without.Goals as goal

pub returns-clause-tells : goal.returns-clause-tells
returns-clause-tells g c = λ m.
    let out = changed g.W.Write.contents c.args.out.now c.conclude.new.out in
    subst (λ (is_told : Bool). EndsNothing g.T.Teller.form c.args.drawn c.args.races is_told c.in_ok-status.status out) c.was_told.ensures
    (c.in_ok-conclude.ensures.tells m tt)

pub returns-clause-status : goal.returns-clause-status
returns-clause-status g c = record { well = c.in_ok-status.ensures.well; statuses = c.in_ok-status.ensures.statuses }
