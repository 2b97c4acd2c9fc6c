use Rattle.std.proofs.Common.{arith}
use Rattle.search_reach.proofs.Meeting.{at-some}
use Rattle.search_reach.proofs.Searching.{here}
use Rattle.search_race_free.proofs.Held.{owning-count}
use Rattle.search_race_free.proofs.Timing.{untimed-none, untimed-more, untimed-all}
use Rattle.search_race_free.proofs.timeouts.timed_among.Goals as goal

pub loop-place-init : goal.loop-place-init
loop-place-init g c = untimed-none (g.M.Moves.threads c.args.system.now) c.args.table.now

pub is_timed_at-requires : goal.is_timed_at-requires
is_timed_at-requires g c =
    let table = c.args.table.now in
    let place = c.loop-place.place in
    let r = c.requires in
    let len = owning-count table r.0 r.1 c.len-place-end.result c.len-place-end.ensures in
    let s = at-some r.0 place (omega (arith, len)) in
    (r.0, s.0, r.1, s.1, r.2 s.0 (here r.0 place s.0 s.1))

pub loop-place-preserved : goal.loop-place-preserved
loop-place-preserved g c =
    untimed-more (g.M.Moves.threads c.args.system.now) c.args.table.now c.loop-place.place c.loop-place.invariant
    (c.in_ok-is_timed_at.ensures.none c.if-branch.false)

pub returns-clause-none : goal.returns-clause-none
returns-clause-none g c = λ e.
    untimed-all (g.M.Moves.threads c.args.system.now) c.args.table.now c.loop-place.place c.len-place-end.result c.len-place-end.ensures
    (omega arith) c.loop-place.invariant
