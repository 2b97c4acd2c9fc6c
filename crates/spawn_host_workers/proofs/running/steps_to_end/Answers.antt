use Rattle.std.proofs.Common.{refl}
use Rattle.interp_trait.specs.Comes.{watched}
use Rattle.interp_trait.specs.declared.turn.Turn.TheVariants.{Moved, Ended}
use Rattle.spawn_host_workers.proofs.Attending.{attends_none, attends_then, attends_moved}
use Rattle.spawn_host_workers.proofs.Staying.{stays_free_on}
use Rattle.spawn_host_workers.proofs.running.steps_to_end.Goals as goal

pub returns-in-Ended-clause-ended : goal.returns-in-Ended-clause-ended
returns-in-Ended-clause-ended g c t stands here =
    let m = g.M.SharedMemory in
    let i = c.loop.invariant in
    let first = g.T.TakesTurns.meaning c.args.thread.now in
    let stepped = rw (i.stays.stays.program, i.stays.stays.fuel, i.stays.same.name_is) at c.in-Ended.ensures.stepped in
    attends_then g.G.Gate first.fuel first.program m.LOSES m.opening (m.limit c.args.memory.now)
    (m.name c.args.seat.now) t Moved (Ended c.in-Ended.outcome) _ _
    (watched m.seen m.lost c.args.seat.now c.args.gate.now) (watched m.seen m.lost c.loop.seat c.loop.gate)
    (watched m.seen m.lost c.step.new.seat c.step.new.gate) (i.comes t stands here) (λ x s h. (stepped x s h).attends)

pub loop-init : goal.loop-init
loop-init g c =
    let m = g.M.SharedMemory in
    let first = g.T.TakesTurns.meaning c.args.thread.now in record {
      stays = record {
        stays = record { program = refl; fuel = refl };
        same = record { name_is = refl; right_is = refl };
        free = c.requires.free;
      };
      comes = λ t stands here.
          attends_none g.G.Gate first.fuel first.program m.LOSES m.opening (m.limit c.args.memory.now) (m.name c.args.seat.now) t first.stands
          (watched m.seen m.lost c.args.seat.now c.args.gate.now) stands here;
    }

pub loop-preserved : goal.loop-preserved
loop-preserved g c =
    let m = g.M.SharedMemory in
    let first = g.T.TakesTurns.meaning c.args.thread.now in
    let p = first.program in
    let limit = m.limit c.args.memory.now in
    let n = m.name c.args.seat.now in
    let i = c.loop.invariant in
    let stepped = rw (i.stays.stays.program, i.stays.stays.fuel, i.stays.same.name_is) at c.step.ensures.stepped in record {
      stays = stays_free_on m g.T.TakesTurns.meaning _ _ _ _ _ _ i.stays c.step.ensures.stays;
      comes = λ t stands here.
          attends_moved g.G.Gate first.fuel p m.LOSES m.opening limit n t c.step.result _ _ _
          (attends_then g.G.Gate first.fuel p m.LOSES m.opening limit n t Moved c.step.result _ _
          (watched m.seen m.lost c.args.seat.now c.args.gate.now) (watched m.seen m.lost c.loop.seat c.loop.gate)
          (watched m.seen m.lost c.step.new.seat c.step.new.gate) (i.comes t stands here)
          (λ x s h. (stepped x s h).attends));
    }

pub returns-in-Ended-clause-stays : goal.returns-in-Ended-clause-stays
returns-in-Ended-clause-stays g c = stays_free_on g.M.SharedMemory g.T.TakesTurns.meaning _ _ _ _ _ _ c.loop.invariant.stays c.step.ensures.stays
