use Rattle.report_lines.proofs.ThreadLines.{texts_go_on}
use Rattle.report_jobs.specs.Prints.{units_line}
use Rattle.report_jobs.proofs.printing.write_all_units.Goals as goal

pub loop-thread-preserved : goal.loop-thread-preserved
loop-thread-preserved g c = texts_go_on units_line _ _ _ c.args.reports.now c.loop-thread.thread _ c.loop-thread-test.true
    c.loop-thread.invariant c.in_ok-write_units.ensures
