use Rattle.replay_text.proofs.Whole.{one_record}
use Rattle.replay_text.proofs.record.one_text.Goals as goal

pub returns : goal.returns
returns c = one_record
