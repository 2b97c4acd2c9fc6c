use Rattle.std.proofs.Common.{take}
use Rattle.std.specs.List.{All}
use Rattle.replay_rules.specs.Ranges.{ReportFits}
use Rattle.report_runs.proofs.fitting.show_reports_fit.Given as goal

abbrev pub invariant-loop-report : goal.invariant-loop-report
invariant-loop-report l = All ReportFits (take l.report-index l.reports)
