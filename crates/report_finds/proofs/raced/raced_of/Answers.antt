use Rattle.std.proofs.Common.{sym, subst}
use Rattle.std.specs.Prelude.{IfOk}
use Rattle.report_telling.specs.declared.racing.Raced.TheVariants.{Untold}
use Rattle.report_telling.specs.declared.racing.Racing.{Racing}
use Rattle.report_finds.specs.Racing.{IsRacedOf, racing_in}
use Rattle.report_finds.specs.declared.whole.FirstLook.{FirstLook}
use Rattle.report_finds.proofs.Looking.{unfound_by}
use Rattle.report_finds.proofs.raced.raced_of.Goals as goal

pub returns-in-Done-clause-raced : goal.returns-in-Done-clause-raced
returns-in-Done-clause-raced c =
    let q = c.args.call.request.now in
    let s = c.args.call.search.now in
    let may = c.args.call.allowed in
    subst (λ (look : FirstLook). IsRacedOf q s may (racing_in look) Untold) (sym c.in-Done.is) (λ r. unfound_by c.in-Done.all.verdict c.in-Done.timed r)

pub returns-in-Found-clause-raced : goal.returns-in-Found-clause-raced
returns-in-Found-clause-raced c =
    let q = c.args.call.request.now in
    let s = c.args.call.search.now in
    let may = c.args.call.allowed in
    subst (λ (look : FirstLook). IfOk c.run_of_race.result (IsRacedOf q s may (racing_in look))) (sym c.in-Open.is)
    (subst (λ (racing : Racing). IfOk c.run_of_race.result (IsRacedOf q s may racing)) (sym c.in-Found.is) c.run_of_race.ensures.raced)
