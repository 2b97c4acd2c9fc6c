use Rattle.std.proofs.Common.{◌≡◌, Some}
use Rattle.shared_memory.specs.WaitQueue.{first_to_end}
use Rattle.shared_memory.proofs.Woken.{ended_sleeps}
use Rattle.waiters.proofs.queue.Queue.settle.Goals as goal

pub wake-requires : goal.wake-requires
wake-requires c =
    let first : first_to_end c.self.inside.sleepers.items ≡ Some c.in-Some.first = cc in
    rw (← c.self.view_is) (λ n among. ended_sleeps n c.self.inside.sleepers.items (rw first among))
