use Rattle.replay_rules.proofs.Recording.{runs_are_recorded}
use Rattle.replay_rules.proofs.runs_are_recorded.Goals as goal

pub returns : goal.returns
returns c = runs_are_recorded
