use Rattle.show_events.proofs.Linked.{spawn_next}
use Rattle.show_events.proofs.links.add_spawns.Goals as goal

pub loop-at-preserved : goal.loop-at-preserved
loop-at-preserved c = spawn_next c.args.log.now c.args.contexts.now c.args.firsts.now c.loop-at.at _ _ _ _ _
    c.spawned_at-first.ensures c.link_between-link.ensures c.loop-at.invariant c.in_ok-add_link.ensures
