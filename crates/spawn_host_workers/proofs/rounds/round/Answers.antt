use Rattle.std.proofs.Common.{◌<◌, length, arith, ap, subst, get_or}
use Rattle.spawn_host_workers.specs.Level.{Round}
use Rattle.spawn_host_workers.proofs.Levelling.{round_none, round_more, same_from_both}
use Rattle.spawn_host_workers.proofs.rounds.round.Goals as goal

pub loop-i-preserved : goal.loop-i-preserved
loop-i-preserved g c =
    let m = c.meet_twice.ensures in
    let below : c.loop-i.i < length c.loop-i.seats = omega arith in
    round_more _ _ _ _ _ _ _ _ _ _ _ _ c.loop-i.invariant below
    (ap (λ s. get_or c.loop-i.seats c.loop-i.i s) c.index-seats-i.is) m.a.name_is m.b.name_is m.a.right_is m.one m.longer

pub loop-i-init : goal.loop-i-init
loop-i-init g c = round_none _ _ _ _ _ _ c.requires

pub returns : goal.returns
returns g c =
    let m = g.M.SharedMemory in
    subst (λ n. Round m.opening m.name m.has_queue_right m.seen c.args.hub.now c.loop-i.hub c.args.seats.now c.loop-i.seats n)
    (same_from_both _ _ c.loop-i.auto.i-end c.loop-i-test.false) c.loop-i.invariant
