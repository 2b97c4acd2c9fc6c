use Rattle.search_settled.proofs.Threads.{if-some-at}
use Rattle.search_settled.proofs.Knowing.{count-low, event-none, event-some, own-before, own-lost, alone}
use Rattle.search_settled.proofs.turns.turn_of.Goals as goal

pub returns-in_default-clause-turn : goal.returns-in_default-clause-turn
returns-in_default-clause-turn g c =
    let k = g.M.Moves.threads c.args.system.now in
    event-none k c.args.shared.now c.args.thread.now c.args.n _ c.in_default.is c.in_ok-new.ensures

pub is_quiet-requires : goal.is_quiet-requires
is_quiet-requires g c =
    let k = g.M.Moves.threads c.args.system.now in
    let of = c.requires.of in
    count-low k (g.met.M.Moves.bounded c.args.system.now) c.args.shared.now c.args.thread.now c.args.n of.0 of.1 c.started-count.result
    c.started-count.ensures

pub returns-then-not-is_quiet-clause-turn : goal.returns-then-not-is_quiet-clause-turn
returns-then-not-is_quiet-clause-turn g c =
    let k = g.M.Moves.threads c.args.system.now in
    event-some k c.args.shared.now c.args.thread.now c.args.n _ (c.in-Some.new, c.in-Some.made) c.in-Some.is c.in_ok-new.ensures

pub after-requires : goal.after-requires
after-requires g c =
    let k = g.M.Moves.threads c.args.system.now in
    let of = c.requires.of in
    record {
      somewhere = own-before k c.args.shared.now c.args.thread.now c.args.n (c.in-Some.new, c.in-Some.made) of.0 of.1
          (event-some k c.args.shared.now c.args.thread.now c.args.n _ (c.in-Some.new, c.in-Some.made) c.in-Some.is c.in_ok-new.ensures);
      few = c.requires.few;
    }

pub returns-in_default-2-clause-gives_up : goal.returns-in_default-2-clause-gives_up
returns-in_default-2-clause-gives_up g c _ =
    let k = g.M.Moves.threads c.args.system.now in
    own-lost k (g.M.Moves.stuck c.args.system.now) c.args.shared.now c.args.thread.now c.args.n (c.in-Some.new, c.in-Some.made)
    (event-some k c.args.shared.now c.args.thread.now c.args.n _ (c.in-Some.new, c.in-Some.made) c.in-Some.is c.in_ok-new.ensures)
    (c.in_ok-rested.ensures.gives_up c.in_default-2.is)

pub returns-clause-turn : goal.returns-clause-turn
returns-clause-turn g c =
    let k = g.M.Moves.threads c.args.system.now in
    alone k c.args.shared.now c.args.thread.now c.args.n c.in-Some.new c.in-Some.made c.in-Some-2.rested c.started-count.result c.started-count.ensures
    (c.is_quiet.ensures.counted c.if-not-is_quiet.false)
    (event-some k c.args.shared.now c.args.thread.now c.args.n _ (c.in-Some.new, c.in-Some.made) c.in-Some.is c.in_ok-new.ensures)
    (c.is_quiet.ensures.unheard c.if-not-is_quiet.false) (if-some-at _ _ _ c.in-Some-2.is c.in_ok-rested.ensures.rests)
