use Rattle.show_events.proofs.Among.{thread_next}
use Rattle.show_events.proofs.write.threads_at.Goals as goal

pub loop-place-preserved : goal.loop-place-preserved
loop-place-preserved c = thread_next c.args.log.now c.args.chosen.now _ _ c.loop-place.place 0 _ c.loop-place-test.true
    (c.requires c.loop-place.place 0 c.loop-place-test.true) c.loop-place.invariant c.in_ok-push.ensures.items
