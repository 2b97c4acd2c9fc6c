use Rattle.std.proofs.Common.{List, ◌∙◌, sym, subst}
use Rattle.std.proofs.lemmas.List.{take_at}
use Rattle.replay_walk.specs.Standing.{SettlesThread}
use Rattle.replay_walk.proofs.Settled.{within, ready, settled}
use Rattle.search_scheduled.proofs.Settling.{settles_on}
use Rattle.search_scheduled.proofs.settled.settle_going.Goals as goal

pub settle_at-requires-clause-within : goal.settle_at-requires-clause-within
settle_at-requires-clause-within g c =
    let s = c.requires.standing.0 in let st = c.requires.standing.1 in
    let w = c.args.walk.now in
    let going = c.is_going.ensures.going c.if-not-is_going.false s w.threads.items st in
    within g.T.TakesTurns.meaning s w.threads.items w.stage.queue w.stage.started w.stage.ends st c.args.n going
    c.deref_mut.result.now c.deref_mut.ensures.value

pub settle_at-requires-clause-here : goal.settle_at-requires-clause-here
settle_at-requires-clause-here g c =
    let s = c.requires.standing.0 in let st = c.requires.standing.1 in
    let w = c.args.walk.now in
    let going = c.is_going.ensures.going c.if-not-is_going.false s w.threads.items st in
    ready g.T.TakesTurns.meaning s w.threads.items w.stage.queue w.stage.started w.stage.ends st c.args.n going
    c.deref_mut.result.now c.deref_mut.ensures.value

pub returns-in-Some-clause-settled : goal.returns-in-Some-clause-settled
returns-in-Some-clause-settled g c = λ s st.
    let w = c.args.walk.now in
    let going = c.is_going.ensures.going c.if-not-is_going.false s w.threads.items st in
    let d = settled g.T.TakesTurns.meaning s w.threads.items w.stage.queue w.stage.started w.stage.ends st c.args.n going
    c.deref_mut.result.now c.deref_mut.ensures.value c.in-Some.turn c.settle_at.new.threads c.in-Some.ensures.settled in
    settles_on g.T.TakesTurns.meaning s c.args.n c.in-Some.turn _ c.settle_at.new.threads
    (take_at c.settle_at.new.threads _ w.threads.len (c.settle_at.ensures.count ∙ c.deref_mut.ensures.len))
    d.thread d.on d.settles d.says

pub returns-then-not-is_going-clause-gone : goal.returns-then-not-is_going-clause-gone
returns-then-not-is_going-clause-gone g c = λ same. c.is_going.ensures.gone c.if-not-is_going.true

pub returns-in-Some-clause-settles : goal.returns-in-Some-clause-settles
returns-in-Some-clause-settles g c =
    let m = g.T.TakesTurns.meaning in
    let w = c.args.walk.now in
    let whole = take_at c.settle_at.new.threads _ w.threads.len (c.settle_at.ensures.count ∙ c.deref_mut.ensures.len) in
    subst (λ (l : List g.row.T.Denot). SettlesThread m w.threads.items c.args.n c.in-Some.turn l) (sym whole)
    (subst (λ (l : List g.row.T.Denot). SettlesThread m l c.args.n c.in-Some.turn c.settle_at.new.threads) c.deref_mut.ensures.value
    c.in-Some.ensures.settled)
