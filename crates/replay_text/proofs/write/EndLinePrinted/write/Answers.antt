use Rattle.replay_text.proofs.Written.{on_ok, end_appends}
use Rattle.replay_text.proofs.write.EndLinePrinted.write.Goals as goal

pub returns : goal.returns
returns g c = on_ok c.write-2.result c.write-2.ensures.bytes
    (end_appends c.args.place c.args.report _ _ _ _ c.in_ok-write.ensures.bytes c.in_ok-write_outcome.ensures)
