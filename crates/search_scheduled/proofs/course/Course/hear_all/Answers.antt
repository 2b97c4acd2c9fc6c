use Rattle.std.proofs.Common.{◌≡◌, arith}
use Rattle.search_scheduled.proofs.Answers.{heard_all, heard_none, heard_more}
use Rattle.search_scheduled.proofs.course.Course.hear_all.Goals as goal

pub loop-n-init : goal.loop-n-init
loop-n-init g c = (heard_none g.T.TakesTurns.meaning c.args.self.now, λ first v h. h)

pub hear-requires : goal.hear-requires
hear-requires g c = (c.requires.0, c.loop-n.invariant.0.runs c.requires.0 c.requires.1)

pub loop-n-preserved : goal.loop-n-preserved
loop-n-preserved g c = (
  heard_more g.T.TakesTurns.meaning c.loop-n.n c.args.self.now c.loop-n.self c.hear.new.self c.loop-n.invariant.0
      c.in_ok-hear.ensures.heard,
  λ first v h. c.in_ok-hear.ensures.ear first v (c.loop-n.invariant.1 first v h),
)

pub returns-clause-heard : goal.returns-clause-heard
returns-clause-heard g c =
    let end : c.loop-n.n ≡ c.args.self.now.walk.stage.started = omega arith in
    heard_all g.T.TakesTurns.meaning c.loop-n.n c.requires.0 c.args.self.now c.loop-n.self c.requires.1 end c.loop-n.invariant.0
