use Rattle.std.proofs.Common.{◌+◌, List, refl, sym, subst, take}
use Rattle.std.specs.List.{AllZip}
use Rattle.report_json.specs.declared.drawn.MetEnding.{MetEnding}
use Rattle.show_rows.proofs.Zipped.{zip_next}
use Rattle.report_telling.specs.SearchObjects.{IsMetOf}
use Rattle.report_telling.proofs.objects.all_met.Goals as goal

pub loop-at-preserved : goal.loop-at-preserved
loop-at-preserved c =
    let is = IsMetOf c.args.sought.now in
    subst (λ (all : List MetEnding). AllZip is (take (c.loop-at.at + 1) c.args.met.now) all) (sym c.in_ok-push.ensures.items)
    (zip_next is c.args.met.now c.loop-at.all.items c.loop-at.at _ c.index-met-at.result _ c.loop-at-test.true c.index-met-at.is
    c.loop-at.invariant (record { times = refl; first = refl; way = c.of_run.ensures; ending_is = refl }))
