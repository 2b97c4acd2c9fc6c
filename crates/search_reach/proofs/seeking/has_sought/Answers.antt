use Rattle.std.proofs.Common.{◌<◌, length, arith}
use Rattle.search_reach.proofs.Searching.{here}
use Rattle.search_reach.proofs.Meeting.{at-some}
use Rattle.search_reach.proofs.Passing.{passed-none, passed-one, passed-all, sought-at}
use Rattle.search_reach.proofs.seeking.has_sought.Goals as goal

pub returns-then-not-seeks_any : goal.returns-then-not-seeks_any
returns-then-not-seeks_any g c ks held sound j s since at w e stands ends is = c.seeks_any.ensures c.if-not-seeks_any.true e is

pub loop-at-init : goal.loop-at-init
loop-at-init g c ks held sound = passed-none (g.T.Meets.system c.args.system.now) (g.Q.Seeks.sought c.args.sought.now) c.args.from ks

pub is_sought_at-requires : goal.is_sought_at-requires
is_sought_at-requires g c =
    let r = c.requires in
    let len = c.count-at-end.ensures.len r.0 r.1 in
    let s = at-some r.0 c.loop-at.at (omega (arith, len)) in
    (r.0, s.0, r.1, s.1, r.2 s.0 (here r.0 c.loop-at.at s.0 s.1))

pub loop-at-preserved : goal.loop-at-preserved
loop-at-preserved g c ks held sound =
    let at = c.loop-at.at in
    let len = c.count-at-end.ensures.len ks held in
    let low : at < length ks = omega (arith, len) in
    let s = at-some ks at low in
    let met = sound s.0 (here ks at s.0 s.1) in
    passed-one (g.T.Meets.system c.args.system.now) (g.Q.Seeks.sought c.args.sought.now) c.args.from at ks s.0 _ c.if-branch.false s.1
    (c.in_ok-is_sought_at.ensures ks s.0 held s.1 met) (c.loop-at.invariant ks held sound)

pub returns-then-branch : goal.returns-then-branch
returns-then-branch g c ks held sound =
    let at = c.loop-at.at in
    let len = c.count-at-end.ensures.len ks held in
    let low : at < length ks = omega (arith, len) in
    let s = at-some ks at low in
    let met = sound s.0 (here ks at s.0 s.1) in
    sought-at (g.T.Meets.system c.args.system.now) (g.Q.Seeks.sought c.args.sought.now) c.args.from at ks s.0 _ c.if-branch.true (omega arith) s.1
    (c.in_ok-is_sought_at.ensures ks s.0 held s.1 met) (c.loop-at.invariant ks held sound)

pub returns : goal.returns
returns g c ks held sound =
    let len = c.count-at-end.ensures.len ks held in
    passed-all (g.T.Meets.system c.args.system.now) (g.Q.Seeks.sought c.args.sought.now) c.args.from c.loop-at.at ks (omega (arith, len))
    (c.loop-at.invariant ks held sound)
