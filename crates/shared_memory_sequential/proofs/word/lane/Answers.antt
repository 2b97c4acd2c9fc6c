use Rattle.std.proofs.Common.{sym, ◌∙◌}
use Rattle.shared_memory_sequential.proofs.Lanes.{lane_of-number}
use Rattle.shared_memory_sequential.proofs.word.lane.Goals as goal

pub returns : goal.returns
returns c = c.low_bytes.ensures ∙ sym (lane_of-number c.args.word c.args.addr c.args.width c.requires.one_word)
