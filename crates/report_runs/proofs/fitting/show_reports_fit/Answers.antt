use Rattle.std.proofs.Common.{sym}
use Rattle.std.proofs.lemmas.List.{take_all}
use Rattle.std.proofs.lemmas.List.Elements.{All-more, All-same}
use Rattle.replay_rules.specs.Ranges.{ReportFits}
use Rattle.report_runs.proofs.fitting.show_reports_fit.Goals as goal

pub loop-report-preserved : goal.loop-report-preserved
loop-report-preserved c = All-more ReportFits c.args.reports.now c.loop-report.report-index _ c.loop-report-test.true
    c.loop-report.invariant c.show_report_fits.ensures

pub returns : goal.returns
returns c = All-same ReportFits c.args.reports.now _
    (sym (take_all c.loop-report.report-index c.args.reports.now c.loop-report-test.false)) c.loop-report.invariant
