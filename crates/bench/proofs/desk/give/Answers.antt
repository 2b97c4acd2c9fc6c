use Rattle.std.proofs.Common.{refl}
use Rattle.waiters_desk.proofs.Surviving.{free_accessed}
use Rattle.bench.proofs.desk.give.Goals as goal

pub returns : goal.returns
returns g c = record { free = rw c.access.ensures.name (free_accessed _ _ _ _ _ _ _ _ refl c.requires.free _ c.access.ensures.outcome) }
