use Rattle.std.proofs.Common.{[], ◌∷◌, length-append, arith}
use Rattle.search_scheduled.proofs.Ready.{one_more, none_more}
use Rattle.search_scheduled.proofs.course.Course.ready.Goals as goal
use Rattle.search_scheduled.proofs.course.Course.ready.Goals.{then-is_going, else-is_going}

pub loop-n-preserved : goal.loop-n-preserved
loop-n-preserved g c =
    let m = g.T.TakesTurns.meaning in
    let stage = c.args.self.now.walk.stage in
    let inv = c.loop-n.invariant in
    elim c.if-is_going.branch [
      | then-is_going w ↦ rw (w.ready-is, w.push.ensures.items) (
        omega (arith, inv.0, length-append c.loop-n.ready.items (c.loop-n.n ∷ [])),
        one_more m stage c.loop-n.n c.loop-n.ready.items inv.1 (c.is_going.ensures.going w.if-is_going.true),
      )
      | else-is_going w ↦ rw w.ready-is (
        omega (arith, inv.0),
        none_more m stage c.loop-n.n c.loop-n.ready.items inv.1 (c.is_going.ensures.gone w.if-is_going.false),
      )
    ]

pub returns-clause-each : goal.returns-clause-each
returns-clause-each g c = record {
  order = c.loop-n.invariant.1.order;
  can = c.loop-n.invariant.1.can;
  others = λ n started few. c.loop-n.invariant.1.others n (omega (arith, c.min-most.ensures));
}
