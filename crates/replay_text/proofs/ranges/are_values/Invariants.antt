use Rattle.std.proofs.Common.{take}
use Rattle.std.specs.List.{All}
use Rattle.replay_text.specs.Conditions.{IsValue}
use Rattle.replay_text.proofs.ranges.are_values.Given as goal

abbrev pub invariant-loop-value : goal.invariant-loop-value
invariant-loop-value l = All IsValue (take l.value-index l.values)
