use Rattle.report_jobs.proofs.Trapping.{tells_next}
use Rattle.report_jobs.proofs.trapped.say_all_traps.Goals as goal

pub loop-thread-preserved : goal.loop-thread-preserved
loop-thread-preserved g c = tells_next c.args.reports.now c.loop-thread.thread _ _ _ _ c.loop-thread-test.true c.loop-thread.invariant
    c.say_end.ensures
