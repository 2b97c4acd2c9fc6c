use Rattle.std.proofs.Common.{arith}
use Rattle.search_settled.proofs.Threads.{at-get, came, begun, came-not, begun-not}
use Rattle.search_settled.proofs.next.thread_after.Goals as goal

pub after-requires : goal.after-requires
after-requires g c =
    let at = at-get c.args.threads.now c.args.m c.in-Some.thread.now c.in-Some.ensures.lookup.3.0 c.in-Some.ensures.lookup.1 in
    let before = c.requires.event.2 in
    record {
      somewhere = (c.requires.event.0, c.requires.event.1, before.made_by, before.each c.args.m c.in-Some.thread.now at);
      few = c.requires.few;
    }

pub first_after-requires : goal.first_after-requires
first_after-requires g c =
    let before = c.requires.event.2 in
    let len = before.len in
    let past = c.in-None.ensures.lookup.3 in
    record {
      somewhere = (c.requires.event.0, c.requires.event.1, before.made_by, omega (arith, len, past));
      few = c.requires.few;
    }

pub returns-in-Some-clause-rests : goal.returns-in-Some-clause-rests
returns-in-Some-clause-rests g c =
    let at = at-get c.args.threads.now c.args.m c.in-Some.thread.now c.in-Some.ensures.lookup.3.0 c.in-Some.ensures.lookup.1 in
    came (g.M.Moves.threads c.args.system.now)
    c.args.made.now c.args.n c.args.threads.now c.args.m c.in-Some.thread.now at c.after.result c.after.ensures.rests

pub returns-in-Some-clause-gives_up : goal.returns-in-Some-clause-gives_up
returns-in-Some-clause-gives_up g c =
    let at = at-get c.args.threads.now c.args.m c.in-Some.thread.now c.in-Some.ensures.lookup.3.0 c.in-Some.ensures.lookup.1 in
    came-not (g.M.Moves.threads c.args.system.now)
    (g.M.Moves.stuck c.args.system.now) c.args.made.now c.args.n c.args.threads.now c.args.m c.in-Some.thread.now at c.after.result c.after.ensures.gives_up

pub returns-in-None-clause-rests : goal.returns-in-None-clause-rests
returns-in-None-clause-rests g c =
    begun (g.M.Moves.threads c.args.system.now)
    c.args.made.now c.args.n c.args.threads.now c.args.m c.in-None.ensures.lookup.3 c.first_after.result c.first_after.ensures.rests

pub returns-in-None-clause-gives_up : goal.returns-in-None-clause-gives_up
returns-in-None-clause-gives_up g c =
    begun-not (g.M.Moves.threads c.args.system.now)
    (g.M.Moves.stuck c.args.system.now) c.args.made.now c.args.n c.args.threads.now c.args.m c.in-None.ensures.lookup.3 c.first_after.result
    c.first_after.ensures.gives_up
