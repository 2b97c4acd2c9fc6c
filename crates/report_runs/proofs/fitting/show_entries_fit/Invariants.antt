use Rattle.std.proofs.Common.{take}
use Rattle.std.specs.List.{All}
use Rattle.replay_rules.specs.Ranges.{EntryFits}
use Rattle.report_runs.proofs.fitting.show_entries_fit.Given as goal

abbrev pub invariant-loop-entry : goal.invariant-loop-entry
invariant-loop-entry l = All EntryFits (take l.entry-index l.log)
