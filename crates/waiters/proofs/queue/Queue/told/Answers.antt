use Rattle.std.proofs.Common.{refl}
use Rattle.waiters.proofs.queue.Queue.told.Goals as goal

pub returns-in_default-clause-after : goal.returns-in_default-clause-after
returns-in_default-clause-after c = refl
