use Rattle.std.proofs.Common.{take}
use Rattle.std.specs.List.{All}
use Rattle.replay_text.specs.Conditions.{IsReport}
use Rattle.replay_text.proofs.ranges.are_reports.Given as goal

abbrev pub invariant-loop-report : goal.invariant-loop-report
invariant-loop-report l = All IsReport (take l.report-index l.ends)
