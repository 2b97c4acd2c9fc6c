use Rattle.replay_text.proofs.Written.{on_ok, entry_appends}
use Rattle.replay_text.proofs.write.EntryLinePrinted.write.Goals as goal

pub returns : goal.returns
returns g c = on_ok c.write_reply.result c.write_reply.ensures (entry_appends c.args.entry _ _ _ c.in_ok-write.ensures.bytes)
