use Rattle.std.proofs.Common.{take}
use Rattle.std.specs.List.{All}
use Rattle.replay_text.specs.Conditions.{IsEntry}
use Rattle.replay_text.proofs.ranges.are_entries.Given as goal

abbrev pub invariant-loop-entry : goal.invariant-loop-entry
invariant-loop-entry l = All (IsEntry l.threads) (take l.entry-index l.log)
