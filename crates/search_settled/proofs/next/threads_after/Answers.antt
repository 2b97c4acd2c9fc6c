use Rattle.std.proofs.Common.{◌+◌, List, arith, sym, subst}
use Rattle.search_settled.proofs.Threads.{SoFar, none-yet, one-more, before-move, behind-move, after-few, all-done, if-some-at}
use Rattle.search_settled.proofs.next.threads_after.Goals as goal

pub loop-m-init : goal.loop-m-init
loop-m-init g c =
    subst (λ (l : List g.row.M-Thread.Denot). SoFar (g.M.Moves.threads c.args.system.now)
    c.args.shared.now c.args.made.now c.args.n c.args.threads.now 0 l) (sym c.in_ok-rested.ensures.items)
    (none-yet (g.M.Moves.threads c.args.system.now)
    c.args.shared.now c.args.made.now c.args.n c.args.threads.now)

pub thread_after-requires-clause-event : goal.thread_after-requires-clause-event
thread_after-requires-clause-event g c = (
  c.requires.0,
  c.requires.1,
  before-move (g.M.Moves.threads c.args.system.now)
      c.args.shared.now c.args.made.now c.args.n c.args.threads.now c.requires.0 c.requires.1 c.requires.2,
)

pub thread_after-requires-clause-few : goal.thread_after-requires-clause-few
thread_after-requires-clause-few g c =
    let move = c.requires.2 in
    let count = c.started-count.ensures ((g.M.Moves.threads c.args.system.now).system.after c.requires.0.shared c.args.n c.requires.1) move.shared in
    let few = after-few (g.M.Moves.threads c.args.system.now) (g.met.M.Moves.bounded c.args.system.now) c.requires.0 c.args.n c.requires.1 c.args.made.now
    move.made_by in
    omega (arith, count, few)

pub loop-m-preserved : goal.loop-m-preserved
loop-m-preserved g c =
    subst (λ (l : List g.row.M-Thread.Denot). SoFar (g.M.Moves.threads c.args.system.now)
    c.args.shared.now c.args.made.now c.args.n c.args.threads.now (c.loop-m.m + 1) l) (sym c.in_ok-push.ensures.items)
    (one-more (g.M.Moves.threads c.args.system.now)
    c.args.shared.now c.args.made.now c.args.n c.args.threads.now c.loop-m.m c.loop-m.rested.items c.in-Some.thread c.loop-m.invariant
    (behind-move (g.M.Moves.threads c.args.system.now)
    c.args.shared.now c.args.made.now c.args.n c.args.threads.now c.loop-m.m c.in-Some.thread
    (if-some-at _ _ _ c.in-Some.is c.in_ok-thread.ensures.rests)))

pub returns-in_default-clause-gives_up : goal.returns-in_default-clause-gives_up
returns-in_default-clause-gives_up g c _ = λ z e move.
    c.in_ok-thread.ensures.gives_up c.in_default.is z e (before-move (g.M.Moves.threads c.args.system.now)
    c.args.shared.now c.args.made.now c.args.n c.args.threads.now z e move)

pub returns-clause-rests : goal.returns-clause-rests
returns-clause-rests g c =
    all-done (g.M.Moves.threads c.args.system.now)
    c.args.shared.now c.args.made.now c.args.n c.args.threads.now c.loop-m.m c.loop-m.rested.items c.started-count.result c.loop-m.invariant
    c.started-count.ensures (omega arith)
