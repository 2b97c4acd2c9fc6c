use Rattle.std.proofs.Common.{arith}
use Rattle.search_strategies.proofs.Drawing.{drawn_more}
use Rattle.search_strategies.proofs.pct.drawn_changes.Goals as goal

pub loop-preserved : goal.loop-preserved
loop-preserved c = (
  omega (arith, c.push.ensures.len, c.loop.invariant.0),
  rw (c.push.ensures.items, c.below.ensures.number, c.below.ensures.next)
      (drawn_more c.loop.changes.items _ c.args.depth c.loop.counter c.args.events c.loop.draws c.loop-test.true c.loop.invariant.1),
)
