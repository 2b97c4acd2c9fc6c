use Rattle.std.proofs.Common.{arith, rules, subst, sym}
use Rattle.search_reach.specs.Stack.{IsOpened}
use Rattle.search_reach.proofs.Meeting.{met-at, met-known, sound-after, reached-all, reached-stuck, reached-sought, reached-told}
use Rattle.search_reach.proofs.Moving.{unique}
use Rattle.search_reach.proofs.Stacking.{Off, deep-first, deep-more, deep-all, below-met, not-before}
use Rattle.search_reach.proofs.search.explore_deep.Goals as goal

pub loop-at-init : goal.loop-at-init
loop-at-init g c =
    let m = c.args.system.now in
    record {
      deep = deep-first (g.T.Meets.system m) (g.T.Meets.equal m) (g.T.Meets.holds m c.args.table.now) (g.Q.Seeks.sought c.args.plan.now.sought)
          c.args.moves.now.items c.count-first.result c.count-first.ensures.len c.requires c.open_places.new.stack.items
          (subst (λ l. IsOpened l 0 c.count-first.result c.open_places.new.stack.items) c.new-stack.ensures.items c.in_ok-open_places.ensures);
      wished = λ b n. b n;
    }

pub returns-in_default-clause-reached : goal.returns-in_default-clause-reached
returns-in_default-clause-reached g c =
    let m = c.args.system.now in
    let k = g.T.Meets.system m in
    let eq = g.T.Meets.equal m in
    let has = g.T.Meets.holds m c.loop-at.table in
    let sought = g.Q.Seeks.sought c.args.plan.now.sought in
    let so = c.loop-at.invariant.deep in
    let all = deep-all k eq has sought c.loop-at.stack.items c.loop-at.gone c.loop-at.moves.items so
    (omega (arith, (c.in_default.ensures.cases).0, c.loop-at.stack.ok)) (omega arith) in
    reached-all k eq has sought (Off c.loop-at.stack.items) c.loop-at.moves.items so.standing c.args.plan.now.most _ _ tt all.0 all.1 (g.met.T.Meets.alike m)

pub next-requires-clause-at : goal.next-requires-clause-at
next-requires-clause-at g c =
    let m = c.args.system.now in
    let k = g.T.Meets.system m in
    let eq = g.T.Meets.equal m in
    let has = g.T.Meets.holds m c.loop-at.table in
    let sought = g.Q.Seeks.sought c.args.plan.now.sought in
    let so = c.loop-at.invariant.deep in
    met-at k eq has sought (Off c.loop-at.stack.items) c.loop-at.moves.items so.standing c.count-met.result c.count-met.ensures.len c.in-Some.at
    (below-met k eq has sought c.loop-at.stack.items c.pop.new.self.items c.in-Some.at c.loop-at.gone c.loop-at.moves.items so c.in-Some.ensures.items
    c.count-met.result c.count-met.ensures.len (omega arith))

pub next-requires-clause-sound : goal.next-requires-clause-sound
next-requires-clause-sound g c =
    let so = (c.loop-at.invariant.deep).standing in
    (so.states, so.held, so.sound)

pub returns-then-not-branch-clause-reached : goal.returns-then-not-branch-clause-reached
returns-then-not-branch-clause-reached g c =
    let m = c.args.system.now in
    let k = g.T.Meets.system m in
    let eq = g.T.Meets.equal m in
    let has = g.T.Meets.holds m c.loop-at.table in
    let sought = g.Q.Seeks.sought c.args.plan.now.sought in
    let so = c.loop-at.invariant.deep in
    let low = below-met k eq has sought c.loop-at.stack.items c.pop.new.self.items c.in-Some.at c.loop-at.gone c.loop-at.moves.items so
    c.in-Some.ensures.items c.count-met.result c.count-met.ensures.len (omega arith) in
    let is = c.count-met.ensures.len (so.standing).states (so.standing).held in
    reached-stuck k eq has sought (Off c.loop-at.stack.items) c.loop-at.moves.items so.standing c.args.plan.now.most _ _ tt c.in-Some.at
    (g.T.Meets.holds m c.next.new.table) c.next.new.moves.items (omega (arith, is, low)) (c.in_ok-next.ensures.none c.if-not-branch.true)
    (c.in_ok-next.ensures.kept c.if-not-branch.true) (c.in_ok-next.ensures.gives_up c.if-not-branch.true)

pub has_sought-requires : goal.has_sought-requires
has_sought-requires g c =
    let m = c.args.system.now in
    let k = g.T.Meets.system m in
    let eq = g.T.Meets.equal m in
    let has = g.T.Meets.holds m c.loop-at.table in
    let sought = g.Q.Seeks.sought c.args.plan.now.sought in
    let so = c.loop-at.invariant.deep in
    let low = below-met k eq has sought c.loop-at.stack.items c.pop.new.self.items c.in-Some.at c.loop-at.gone c.loop-at.moves.items so
    c.in-Some.ensures.items c.count-met.result c.count-met.ensures.len (omega arith) in
    sound-after k eq has sought (Off c.loop-at.stack.items) c.loop-at.moves.items so.standing c.count-met.result c.count-met.ensures.len c.in-Some.at
    (g.T.Meets.holds m c.next.new.table) c.next.new.moves.items low (c.in_ok-next.ensures.next c.if-not-branch.false)

pub returns-then-branch-clause-reached : goal.returns-then-branch-clause-reached
returns-then-branch-clause-reached g c =
    let m = c.args.system.now in
    let k = g.T.Meets.system m in
    let eq = g.T.Meets.equal m in
    let has = g.T.Meets.holds m c.loop-at.table in
    let sought = g.Q.Seeks.sought c.args.plan.now.sought in
    let so = c.loop-at.invariant.deep in
    let low = below-met k eq has sought c.loop-at.stack.items c.pop.new.self.items c.in-Some.at c.loop-at.gone c.loop-at.moves.items so
    c.in-Some.ensures.items c.count-met.result c.count-met.ensures.len (omega arith) in
    reached-sought k eq has sought (Off c.loop-at.stack.items) c.loop-at.moves.items so.standing c.count-met.result c.count-met.ensures.len c.in-Some.at
    (g.T.Meets.holds m c.next.new.table) c.next.new.moves.items low (c.in_ok-next.ensures.next c.if-not-branch.false)
    (λ ks held. unique eq (g.met.T.Meets.symmetric m) ks (c.count-known.ensures.distinct ks held))
    (not-before k eq has sought c.loop-at.stack.items c.pop.new.self.items c.in-Some.at c.loop-at.gone c.loop-at.moves.items so c.in-Some.ensures.items
    c.count-met.result c.count-met.ensures.len) c.args.plan.now.most _ _ tt _ c.if-branch.true
    c.in_ok-has_sought.ensures

pub open_places-requires-in-loop-at : goal.open_places-requires-in-loop-at
open_places-requires-in-loop-at g c =
    let m = c.args.system.now in
    let k = g.T.Meets.system m in
    let eq = g.T.Meets.equal m in
    let has = g.T.Meets.holds m c.loop-at.table in
    let sought = g.Q.Seeks.sought c.args.plan.now.sought in
    let so = c.loop-at.invariant.deep in
    let low = below-met k eq has sought c.loop-at.stack.items c.pop.new.self.items c.in-Some.at c.loop-at.gone c.loop-at.moves.items so
    c.in-Some.ensures.items c.count-met.result c.count-met.ensures.len (omega arith) in
    met-known k eq has sought (Off c.loop-at.stack.items) c.loop-at.moves.items so.standing c.count-met.result c.count-met.ensures.len c.in-Some.at
    (g.T.Meets.holds m c.next.new.table) c.next.new.moves.items low (c.in_ok-next.ensures.next c.if-not-branch.false) c.count-known.result
    c.count-known.ensures.len

pub loop-at-preserved : goal.loop-at-preserved
loop-at-preserved g c =
    let m = c.args.system.now in
    let k = g.T.Meets.system m in
    let eq = g.T.Meets.equal m in
    let has = g.T.Meets.holds m c.loop-at.table in
    let sought = g.Q.Seeks.sought c.args.plan.now.sought in
    let so = c.loop-at.invariant.deep in
    let low = below-met k eq has sought c.loop-at.stack.items c.pop.new.self.items c.in-Some.at c.loop-at.gone c.loop-at.moves.items so
    c.in-Some.ensures.items c.count-met.result c.count-met.ensures.len (omega arith) in
    record {
      deep = deep-more k eq has sought c.loop-at.stack.items c.pop.new.self.items c.in-Some.at c.loop-at.gone c.loop-at.moves.items so
          c.in-Some.ensures.items c.count-met.result c.count-met.ensures.len (g.T.Meets.holds m c.next.new.table) c.next.new.moves.items low
          (c.in_ok-next.ensures.next c.if-not-branch.false) c.count-known.result c.count-known.ensures.len
          (λ ks held. unique eq (g.met.T.Meets.symmetric m) ks (c.count-known.ensures.distinct ks held)) _ c.if-branch.false c.in_ok-has_sought.ensures
          c.open_places-in-loop-at.new.stack.items c.in_ok-open_places-2.ensures;
      wished = λ b n. search rules;
    }

pub returns-in-End-clause-reached : goal.returns-in-End-clause-reached
returns-in-End-clause-reached g c =
    let m = c.args.system.now in
    let k = g.T.Meets.system m in
    let eq = g.T.Meets.equal m in
    let has = g.T.Meets.holds m c.loop-at.table in
    let sought = g.Q.Seeks.sought c.args.plan.now.sought in
    let so = c.loop-at.invariant.deep in
    let low = below-met k eq has sought c.loop-at.stack.items c.pop.new.self.items c.in-Some.at c.loop-at.gone c.loop-at.moves.items so
    c.in-Some.ensures.items c.count-met.result c.count-met.ensures.len (omega arith) in
    reached-told k eq has sought (Off c.loop-at.stack.items) c.loop-at.moves.items so.standing c.count-met.result c.count-met.ensures.len c.in-Some.at
    (g.T.Meets.holds m c.next.new.table) c.next.new.moves.items low (c.in_ok-next.ensures.next c.if-not-branch.false)
    (λ ks held. unique eq (g.met.T.Meets.symmetric m) ks (c.count-known.ensures.distinct ks held))
    (not-before k eq has sought c.loop-at.stack.items c.pop.new.self.items c.in-Some.at c.loop-at.gone c.loop-at.moves.items so c.in-Some.ensures.items
    c.count-met.result c.count-met.ensures.len) c.args.plan.now.most _ _ tt _ c.if-branch.false
    c.in_ok-has_sought.ensures (sym c.in-End.ensures.wish)
