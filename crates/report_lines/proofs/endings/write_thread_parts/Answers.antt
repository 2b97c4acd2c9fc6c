use Rattle.report_lines.specs.Endings.{thread_part}
use Rattle.report_lines.proofs.ThreadLines.{texts_go_on}
use Rattle.report_lines.proofs.endings.write_thread_parts.Goals as goal

pub loop-thread-preserved : goal.loop-thread-preserved
loop-thread-preserved g c = texts_go_on thread_part _ _ _ c.args.outcomes.now c.loop-thread.thread _ c.loop-thread-test.true
    c.loop-thread.invariant c.in_ok-write_thread_part.ensures
