use Rattle.spawn_host_workers.proofs.Levelling.{level_from}
use Rattle.spawn_host_workers.proofs.rounds.level.Goals as goal

pub returns : goal.returns
returns g c = level_from _ _ _ _ _ _ _ _ _ _ c.round.ensures c.round-2.ensures
