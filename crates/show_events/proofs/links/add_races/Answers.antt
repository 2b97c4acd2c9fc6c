use Rattle.show_events.proofs.Linked.{race_next}
use Rattle.show_events.proofs.links.add_races.Goals as goal

pub loop-k-preserved : goal.loop-k-preserved
loop-k-preserved c = race_next c.args.long c.args.races.now c.loop-k.k _ _ _ _ _ c.loop-k-test.true
    c.link_between-link.ensures c.loop-k.invariant c.in_ok-add_link.ensures
