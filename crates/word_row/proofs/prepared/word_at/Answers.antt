use Rattle.word_row.proofs.Opening.{zero_past}
use Rattle.word_row.proofs.prepared.word_at.Goals as goal

pub returns-in_default : goal.returns-in_default
returns-in_default c = record {
  word = zero_past c.args.memory.now c.args.addr c.step.result c.requires.sized c.requires.aligned c.step.ensures.reply c.in_default.not-Value;
  same = c.step.ensures.state;
}
