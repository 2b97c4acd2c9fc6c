use Rattle.std.proofs.Common.{◌+◌, List, sym, subst, take}
use Rattle.std.specs.List.{AllZip, enumerate_from}
use Rattle.show_moments.specs.Scenes.{seen}
use Rattle.report_objects.specs.Ends.{IsEnd}
use Rattle.report_objects.specs.declared.ends.ToldEnd.{ToldEnd}
use Rattle.show_rows.proofs.Zipped.{numbered_all, numbered_more}
use Rattle.report_objects.proofs.ends.ends_told.Goals as goal

pub loop-thread-preserved : goal.loop-thread-preserved
loop-thread-preserved c =
    let is = IsEnd (seen c.args.scene.now) in
    subst (λ (es : List ToldEnd). AllZip is (take (c.loop-thread.thread + 1) (enumerate_from 0 c.args.reports.now)) es)
    (sym c.in_ok-push.ensures.items)
    (numbered_more is c.args.reports.now c.loop-thread.ends.items c.loop-thread.thread _ c.in_ok-end.end c.loop-thread-test.true
    c.loop-thread.invariant c.in_ok-end.ensures)

pub returns : goal.returns
returns c = numbered_all (IsEnd (seen c.args.scene.now)) c.args.reports.now c.loop-thread.ends.items c.loop-thread.thread
    c.loop-thread-test.false c.loop-thread.invariant
