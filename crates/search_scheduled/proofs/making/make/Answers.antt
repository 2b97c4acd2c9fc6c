use Rattle.std.proofs.Common.{List, length, sym, ◌∙◌, ap, subst}
use Rattle.std.proofs.lemmas.List.{take_at}
use Rattle.types.specs.declared.event.Event.{Event}
use Rattle.schedule.specs.System.{Want.Calls}
use Rattle.replay_walk.specs.Standing.{IsStanding, IsSettledOn, made_by}
use Rattle.replay_walk.proofs.Taken.{room_for}
use Rattle.search_scheduled.proofs.making.make.Goals as goal

pub make_in-requires-clause-room : goal.make_in-requires-clause-room
make_in-requires-clause-room g c = λ arg is.
    let r = c.requires.wants in
    ap (λ (l : List g.row.T.Denot). length l) c.deref_mut.ensures.value
    ∙ room_for r.0.program (length c.args.walk.now.threads.items) r.1 arg r.3 (r.2.wants ∙ ap (λ (e : Event). Calls e) is)

pub make_in-requires-clause-settled : goal.make_in-requires-clause-settled
make_in-requires-clause-settled g c =
    let r = c.requires.wants in
    let stage = c.args.walk.now.stage in
    let lent = subst (λ (l : List g.row.T.Denot). IsSettledOn g.T.TakesTurns.meaning r.0 l stage.queue stage.started stage.ends c.args.n r.1)
    (sym c.deref_mut.ensures.value) r.2.on in
    (r.0, r.1, lent, r.2.memory, r.2.none, r.2.wants)

pub returns-clause-made : goal.returns-clause-made
returns-clause-made g c = λ s t x.
    let stage = c.args.walk.now.stage in
    let lent = subst (λ (l : List g.row.T.Denot). IsSettledOn g.T.TakesTurns.meaning s l stage.queue stage.started stage.ends c.args.n t)
    (sym c.deref_mut.ensures.value) x.on in
    let new = c.make_in.new.stage in
    subst (λ (l : List g.row.T.Denot). IsStanding g.T.TakesTurns.meaning (made_by s c.args.n c.args.event c.make_in.result t) l
    new.queue new.started new.ends)
    (sym (take_at c.make_in.new.threads _ c.args.walk.now.threads.len (c.make_in.ensures.count ∙ c.deref_mut.ensures.len)))
    (c.make_in.ensures.made s t lent x.memory x.none x.wants)
