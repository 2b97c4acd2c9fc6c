use Rattle.show_events.proofs.Linked.{wake_next}
use Rattle.show_events.proofs.links.add_wakes.Goals as goal

pub loop-k-preserved : goal.loop-k-preserved
loop-k-preserved c = wake_next c.args.long c.args.answers.now c.args.wakes.now c.loop-k.k _ _ _ _ _ _ c.loop-k-test.true
    c.in_list-told.ensures c.link_between-link.ensures c.loop-k.invariant c.in_ok-add_link.ensures
