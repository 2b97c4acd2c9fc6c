use Rattle.std.proofs.Common.{◌+◌, List, sym, subst, take}
use Rattle.std.specs.List.{AllZip}
use Rattle.show_json.specs.declared.moments.EndedThread.{EndedThread}
use Rattle.show_moments.specs.Scenes.{seen}
use Rattle.show_rows.proofs.Zipped.{zip_next}
use Rattle.report_objects.specs.Ends.{IsEndedThread}
use Rattle.report_objects.proofs.ends.ended_threads.Goals as goal

pub loop-k-preserved : goal.loop-k-preserved
loop-k-preserved c =
    let is = IsEndedThread (seen c.args.scene.now) in
    subst (λ (ts : List EndedThread). AllZip is (take (c.loop-k.k + 1) c.args.ends.now) ts) (sym c.in_ok-push.ensures.items)
    (zip_next is c.args.ends.now c.loop-k.threads.items c.loop-k.k _ c.index-ends-k.result c.in_ok-thread.thread c.loop-k-test.true
    c.index-ends-k.is c.loop-k.invariant c.in_ok-thread.ensures)
