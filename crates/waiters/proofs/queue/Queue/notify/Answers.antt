use Rattle.shared_memory.proofs.Woken.{woken_sleeps}
use Rattle.waiters.proofs.queue.Queue.notify.Goals as goal

pub wake-requires : goal.wake-requires
wake-requires c =
    rw (c.as_slice-2.ensures.value, c.woken_at-woken.ensures, c.as_slice.ensures.value, ← c.self.view_is)
    (λ n among. woken_sleeps n c.args.addr c.args.count c.self.inside.sleepers.items among)
