use Rattle.std.proofs.Common.{ℕ, ◌<◌, arith, sym, refl, ◌∙◌, rules}
use Rattle.search_reach.proofs.Moving.{unique}
use Rattle.search_reach.proofs.Meeting.{met-at, going-first, going-more, going-sought, going-told, gone-through}
use Rattle.search_reach.proofs.Meeting.{sound-after, reached-all, reached-many, reached-stuck}
use Rattle.search_reach.proofs.search.explore.Goals as goal

pub loop-at-init : goal.loop-at-init
loop-at-init g c =
    let m = c.args.system.now in
    record {
      going = going-first (g.T.Meets.system m) (g.T.Meets.equal m) (g.T.Meets.holds m c.args.table.now) (g.Q.Seeks.sought c.args.plan.now.sought)
          c.args.moves.now.items c.count-end.result c.count-end.ensures.len (g.met.T.Meets.alike m) c.requires;
      wished = λ b n. b n;
    }

pub returns-then-met-at : goal.returns-then-met-at
returns-then-met-at g c =
    let m = c.args.system.now in
    let k = g.T.Meets.system m in
    let eq = g.T.Meets.equal m in
    let has = g.T.Meets.holds m c.loop-at.table in
    let sought = g.Q.Seeks.sought c.args.plan.now.sought in
    let so = c.loop-at.invariant.going in
    let is = c.count-met.ensures.len (so.standing).states (so.standing).held in
    record {
      reached = reached-all k eq has sought (λ (j : ℕ). j < c.loop-at.at) c.loop-at.moves.items so.standing c.args.plan.now.most _ _
          (gone-through k eq has sought c.loop-at.at c.loop-at.moves.items c.loop-at.levels so) (omega (arith, is)) (λ j low. omega (arith, low, is))
          (g.met.T.Meets.alike m);
      levels = λ e. cc e;
      obeys = λ ks held b n. absurd (c.loop-at.invariant.wished b n);
    }

pub returns-then-most-met : goal.returns-then-most-met
returns-then-most-met g c =
    let m = c.args.system.now in
    let k = g.T.Meets.system m in
    let eq = g.T.Meets.equal m in
    let has = g.T.Meets.holds m c.loop-at.table in
    let sought = g.Q.Seeks.sought c.args.plan.now.sought in
    let so = c.loop-at.invariant.going in
    record {
      reached = reached-many k eq has sought (λ (j : ℕ). j < c.loop-at.at) c.loop-at.moves.items so.standing c.args.plan.now.most _ _
          (gone-through k eq has sought c.loop-at.at c.loop-at.moves.items c.loop-at.levels so) c.count-met.result c.count-met.ensures.len (omega arith);
      levels = λ e. cc e;
      obeys = λ ks held b n. absurd (c.loop-at.invariant.wished b n);
    }

pub next-requires-clause-at : goal.next-requires-clause-at
next-requires-clause-at g c =
    let m = c.args.system.now in
    met-at (g.T.Meets.system m) (g.T.Meets.equal m) (g.T.Meets.holds m c.loop-at.table) (g.Q.Seeks.sought c.args.plan.now.sought)
    (λ (j : ℕ). j < c.loop-at.at) c.loop-at.moves.items (c.loop-at.invariant.going).standing c.count-met.result c.count-met.ensures.len c.loop-at.at
    (omega arith)

pub next-requires-clause-sound : goal.next-requires-clause-sound
next-requires-clause-sound g c =
    let so = (c.loop-at.invariant.going).standing in
    (so.states, so.held, so.sound)

pub returns-then-not-branch : goal.returns-then-not-branch
returns-then-not-branch g c =
    let m = c.args.system.now in
    let k = g.T.Meets.system m in
    let eq = g.T.Meets.equal m in
    let has = g.T.Meets.holds m c.loop-at.table in
    let sought = g.Q.Seeks.sought c.args.plan.now.sought in
    let so = c.loop-at.invariant.going in
    let is = c.count-met.ensures.len (so.standing).states (so.standing).held in
    record {
      reached = reached-stuck k eq has sought (λ (j : ℕ). j < c.loop-at.at) c.loop-at.moves.items so.standing c.args.plan.now.most _ _
          (gone-through k eq has sought c.loop-at.at c.loop-at.moves.items c.loop-at.levels so) c.loop-at.at (g.T.Meets.holds m c.next.new.table)
          c.next.new.moves.items (omega (arith, is)) (c.in_ok-next.ensures.none c.if-not-branch.true)
          (c.in_ok-next.ensures.kept c.if-not-branch.true) (c.in_ok-next.ensures.gives_up c.if-not-branch.true);
      levels = λ e. cc e;
      obeys = λ ks held b n. absurd (c.loop-at.invariant.wished b n);
    }

pub has_sought-requires : goal.has_sought-requires
has_sought-requires g c =
    let m = c.args.system.now in
    sound-after (g.T.Meets.system m) (g.T.Meets.equal m) (g.T.Meets.holds m c.loop-at.table) (g.Q.Seeks.sought c.args.plan.now.sought)
    (λ (j : ℕ). j < c.loop-at.at) c.loop-at.moves.items (c.loop-at.invariant.going).standing c.count-met.result c.count-met.ensures.len c.loop-at.at
    (g.T.Meets.holds m c.next.new.table) c.next.new.moves.items (omega arith) (c.in_ok-next.ensures.next c.if-not-branch.false)

pub loop-at-preserved : goal.loop-at-preserved
loop-at-preserved g c =
    let m = c.args.system.now in
    record {
      going = going-more (g.T.Meets.system m) (g.T.Meets.equal m) (g.T.Meets.holds m c.loop-at.table) (g.Q.Seeks.sought c.args.plan.now.sought) c.loop-at.at
          c.loop-at.moves.items c.loop-at.levels c.loop-at.invariant.going c.count-met.result c.count-met.ensures.len (g.T.Meets.holds m c.next.new.table)
          c.next.new.moves.items (omega arith) (c.in_ok-next.ensures.next c.if-not-branch.false) c.count-known.result c.count-known.ensures.len
          (g.met.T.Meets.alike m) c.behind-levels.result c.behind-levels.ensures
          (λ ks held. unique (g.T.Meets.equal m) (g.met.T.Meets.symmetric m) ks (c.count-known.ensures.distinct ks held)) _ c.if-branch.false
          c.in_ok-has_sought.ensures;
      wished = λ b n. search rules;
    }

pub returns-then-branch : goal.returns-then-branch
returns-then-branch g c =
    let m = c.args.system.now in
    record {
      reached = going-sought (g.T.Meets.system m) (g.T.Meets.equal m) (g.T.Meets.holds m c.loop-at.table) (g.Q.Seeks.sought c.args.plan.now.sought)
          c.loop-at.at c.loop-at.moves.items c.loop-at.levels c.loop-at.invariant.going c.count-met.result c.count-met.ensures.len
          (g.T.Meets.holds m c.next.new.table) c.next.new.moves.items (omega arith) (c.in_ok-next.ensures.next c.if-not-branch.false)
          c.count-known.result c.count-known.ensures.len (g.met.T.Meets.alike m) c.behind-levels.result c.behind-levels.ensures
          (λ ks held. unique (g.T.Meets.equal m) (g.met.T.Meets.symmetric m) ks (c.count-known.ensures.distinct ks held)) c.args.plan.now.most _ _
          c.if-branch.true c.in_ok-has_sought.ensures;
      levels = λ e. cc e;
      obeys = λ ks held b n. absurd (c.loop-at.invariant.wished b n);
    }

pub returns-in-End : goal.returns-in-End
returns-in-End g c =
    let m = c.args.system.now in
    record {
      reached = going-told (g.T.Meets.system m) (g.T.Meets.equal m) (g.T.Meets.holds m c.loop-at.table) (g.Q.Seeks.sought c.args.plan.now.sought)
          c.loop-at.at c.loop-at.moves.items c.loop-at.levels c.loop-at.invariant.going c.count-met.result c.count-met.ensures.len
          (g.T.Meets.holds m c.next.new.table) c.next.new.moves.items (omega arith) (c.in_ok-next.ensures.next c.if-not-branch.false)
          c.count-known.result c.count-known.ensures.len (g.met.T.Meets.alike m) c.behind-levels.result c.behind-levels.ensures
          (λ ks held. unique (g.T.Meets.equal m) (g.met.T.Meets.symmetric m) ks (c.count-known.ensures.distinct ks held)) c.args.plan.now.most _ _
          c.if-branch.false c.in_ok-has_sought.ensures (sym c.in-End.ensures.wish);
      levels = λ e. cc e;
      obeys = λ ks held b n. (refl, sym (c.in-End.ensures.hears.told (c.loop-at.invariant.wished b) n ∙ c.count-known.ensures.len ks held));
    }
