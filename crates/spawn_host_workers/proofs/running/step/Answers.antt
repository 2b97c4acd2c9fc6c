use Rattle.std.proofs.Common.{◌≡◌, subst, sym, ◌∙◌}
use Rattle.schedule.specs.System.{Want.Calls}
use Rattle.interp_trait.specs.Turns.{IsWanted, wants_of}
use Rattle.interp_trait.specs.Comes.{watched}
use Rattle.shared_memory.specs.WaitQueue.{IsFree}
use Rattle.shared_memory.specs.History.{queue_after}
use Rattle.spawn_host_workers.proofs.Attending.{pauses_for, steps_own, steps_then}
use Rattle.spawn_host_workers.proofs.running.step.Goals as goal

pub attend-requires-clause-wanted : goal.attend-requires-clause-wanted
attend-requires-clause-wanted g c κs within =
    let m = g.M.SharedMemory in
    let first = g.T.TakesTurns.meaning c.args.thread.now in
    let h = c.requires.here in
    let o = c.turns_at.ensures in
    let paused = pauses_for g.G.Gate first.fuel first.program m.LOSES m.opening (m.limit c.args.memory.now) (m.name c.args.seat.now) h.0
    (g.T.TakesTurns.meaning c.turns_at.new.self).stands c.turns_at.result c.in-Wants.event
    (watched m.seen m.lost c.args.seat.now c.args.gate.now) (watched m.seen m.lost c.turns_at.new.seat c.turns_at.new.gate)
    c.in-Wants.is (o.ran h.0 h.1 h.2) in (
      paused.now,
      (paused.stands, paused.why.0, subst (λ p. wants_of p paused.now ≡ Calls c.in-Wants.event) (sym o.stays.program) paused.why.1),
    )

pub attend-requires-clause-event : goal.attend-requires-clause-event
attend-requires-clause-event g c κs within =
    let h = c.requires.here in subst IsWanted c.in-Wants.is (c.turns_at.ensures.ran h.0 h.1 h.2).wanted

pub attend-requires-clause-free : goal.attend-requires-clause-free
attend-requires-clause-free g c κs within =
    let m = g.M.SharedMemory in
    let o = c.turns_at.ensures in subst (λ k. IsFree (queue_after (m.seen c.turns_at.new.seat)) k) (sym o.same.name_is) o.alone

pub returns-in-Wants-clause-stepped : goal.returns-in-Wants-clause-stepped
returns-in-Wants-clause-stepped g c t stands here =
    let m = g.M.SharedMemory in
    let first = g.T.TakesTurns.meaning c.args.thread.now in
    let p = first.program in
    let seat = c.args.seat.now in
    let event = c.in-Wants.event in
    let middle = (g.T.TakesTurns.meaning c.turns_at.new.self).stands in
    let o = c.turns_at.ensures in
    let before = watched m.seen m.lost seat c.args.gate.now in
    let between = watched m.seen m.lost c.turns_at.new.seat c.turns_at.new.gate in
    let paused = pauses_for g.G.Gate first.fuel p m.LOSES m.opening (m.limit c.args.memory.now) (m.name seat) t middle c.turns_at.result event before between
    c.in-Wants.is (o.ran t stands here) in
    let attended = rw (o.stays.program, o.stays.fuel, o.same.name_is) at c.attend.ensures.attended in
    steps_then g.G.Gate first.fuel p m.LOSES m.opening (m.limit c.args.memory.now) (m.name seat) t middle event c.attend.result _
    before between (watched m.seen m.lost c.attend.new.seat c.attend.new.gate) paused
    (λ earlier saw. attended paused.now earlier (paused.stands, paused.why.0, paused.why.1) saw)

pub returns-in_default : goal.returns-in_default
returns-in_default g c =
    let m = g.M.SharedMemory in
    let first = g.T.TakesTurns.meaning c.args.thread.now in
    let seat = c.args.seat.now in
    let o = c.turns_at.ensures in record {
      stays = record { stays = o.stays; same = record { name_is = o.same.name_is; right_is = o.same.right_is }; free = o.alone };
      stepped = λ t stands here. steps_own g.G.Gate first.fuel first.program m.LOSES m.opening
          (m.limit c.args.memory.now) (m.name seat) t _ c.turns_at.result
          (watched m.seen m.lost seat c.args.gate.now) (watched m.seen m.lost c.turns_at.new.seat c.turns_at.new.gate)
          c.in_default.not-Wants (o.ran t stands here);
    }

pub returns-in-Wants-clause-stays : goal.returns-in-Wants-clause-stays
returns-in-Wants-clause-stays g c =
    let own = c.turns_at.ensures in
    let then = c.attend.ensures.stays in record {
      stays = record { program = then.stays.program ∙ own.stays.program; fuel = then.stays.fuel ∙ own.stays.fuel };
      same = record { name_is = then.same.name_is ∙ own.same.name_is; right_is = then.same.right_is ∙ own.same.right_is };
      free = rw (own.same.name_is) at then.free;
    }
