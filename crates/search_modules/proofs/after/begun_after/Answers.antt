use Rattle.search_modules.proofs.Following.{is_new, begins_after}
use Rattle.search_modules.proofs.after.begun_after.Goals as goal

pub rested-requires-clause-after : goal.rested-requires-clause-after
rested-requires-clause-after c =
    let r = c.requires.somewhere in
    (r.0, r.1, is_new c.args.searched.now c.args.made.now c.args.n c.args.m r.0 r.1 r.2 r.3)

pub rested-requires-clause-few : goal.rested-requires-clause-few
rested-requires-clause-few c = c.requires.few

pub returns-clause-rests : goal.returns-clause-rests
returns-clause-rests c =
    let rested = rw c.in-Some.is at c.in_ok-new.ensures.rests in
    begins_after c.args.searched.now c.args.made.now c.args.n c.args.m c.in-Some.new rested

pub returns-in_default-clause-gives_up : goal.returns-in_default-clause-gives_up
returns-in_default-clause-gives_up c _ = λ z e made past.
    c.in_ok-new.ensures.gives_up c.in_default.is z e (is_new c.args.searched.now c.args.made.now c.args.n c.args.m z e made past)
