use Rattle.race_history.proofs.Bytes.{each_next}
use Rattle.race_history.proofs.access.push_each.Goals as goal

pub loop-behind-preserved : goal.loop-behind-preserved
loop-behind-preserved c =
    each_next c.args.made.now.items c.loop-behind.made.items c.args.access c.loop-behind.behind c.one_byte.result
    c.loop-behind.invariant c.one_byte.ensures c.in_ok-push.ensures.items
