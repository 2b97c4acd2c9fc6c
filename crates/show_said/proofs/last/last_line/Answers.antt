use Rattle.show_said.proofs.Lasts.{line_more}
use Rattle.show_said.proofs.last.last_line.Goals as goal

pub loop-line-preserved : goal.loop-line-preserved
loop-line-preserved c = line_more c.args.said.now c.args.thread c.loop-line.line-index c.line-item.result c.line-item.is
    c.loop-line-test.true _ _ c.loop-line.invariant c.later-last.ensures
