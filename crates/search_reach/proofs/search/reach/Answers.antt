use Rattle.std.proofs.Common.{rules}
use Rattle.search_reach.proofs.Meeting.{begun, first-sound, reached-none, reached-first}
use Rattle.search_reach.proofs.search.reach.Goals as goal

pub returns-then-not-branch-clause-reached : goal.returns-then-not-branch-clause-reached
returns-then-not-branch-clause-reached g c =
    let m = c.args.system.now in
    reached-none (g.T.Meets.system m) (g.T.Meets.equal m) (g.T.Meets.holds m c.first.new.table)
    (g.Q.Seeks.sought c.args.plan.now.sought) _ c.args.plan.now.most _
    (search rules)
    (c.in_ok-first.ensures.none c.if-not-branch.true) (c.in_ok-first.ensures.gives_up c.if-not-branch.true)

pub has_sought-requires : goal.has_sought-requires
has_sought-requires g c =
    let m = c.args.system.now in
    first-sound (g.T.Meets.system m) (g.T.Meets.equal m) (g.T.Meets.holds m c.first.new.table) (c.in_ok-first.ensures.first c.if-not-branch.false)

pub returns-then-branch-clause-reached : goal.returns-then-branch-clause-reached
returns-then-branch-clause-reached g c =
    let m = c.args.system.now in
    reached-first (g.T.Meets.system m) (g.T.Meets.equal m) (g.T.Meets.holds m c.first.new.table)
    (g.Q.Seeks.sought c.args.plan.now.sought) _ c.args.plan.now.most _
    (search rules) (g.met.T.Meets.alike m) (c.in_ok-first.ensures.first c.if-not-branch.false) _ c.if-branch.true c.in_ok-has_sought.ensures
    c.args.plan.now.order _ c.levels.ensures

pub explore-requires : goal.explore-requires
explore-requires g c =
    let m = c.args.system.now in
    begun (g.T.Meets.system m) (g.T.Meets.equal m) (g.T.Meets.holds m c.first.new.table) (g.Q.Seeks.sought c.args.plan.now.sought) _ (search rules)
    (c.in_ok-first.ensures.first c.if-not-branch.false) _ c.if-branch.false c.in_ok-has_sought.ensures

pub explore_deep-requires : goal.explore_deep-requires
explore_deep-requires g c =
    let m = c.args.system.now in
    begun (g.T.Meets.system m) (g.T.Meets.equal m) (g.T.Meets.holds m c.first.new.table) (g.Q.Seeks.sought c.args.plan.now.sought) _ (search rules)
    (c.in_ok-first.ensures.first c.if-not-branch.false) _ c.if-branch.false c.in_ok-has_sought.ensures
