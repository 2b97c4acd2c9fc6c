use Rattle.std.proofs.Common.{List, subst}
use Rattle.spawn_host_workers.specs.Level.{Level}
use Rattle.spawn_host_workers.proofs.host.bring_home.Goals as goal

pub returns-clause-seats : goal.returns-clause-seats
returns-clause-seats g c =
    let m = g.M.SharedMemory in (
      c.level_all.new.hub,
      c.level_all.new.seats.items,
      c.push_reserved.ensures.items,
      subst (λ (l : List _). Level m.opening m.name m.has_queue_right m.seen c.args.hub c.level_all.new.hub l c.level_all.new.seats.items)
          c.split.ensures.seats c.level_all.ensures.level,
    )
