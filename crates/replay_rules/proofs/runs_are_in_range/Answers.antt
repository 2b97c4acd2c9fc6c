use Rattle.replay_rules.proofs.Ranges.{runs_are_in_range}
use Rattle.replay_rules.proofs.runs_are_in_range.Goals as goal

pub returns : goal.returns
returns c = runs_are_in_range
