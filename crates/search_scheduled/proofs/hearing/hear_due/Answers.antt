use Rattle.std.proofs.Common.{◌≡◌, Some, sym, ◌∙◌, ap, subst, slice_get}
use Rattle.types.specs.declared.event.Answer.{Answer}
use Rattle.shared_memory.specs.WaitQueue.{WaitQueue, answer_due}
use Rattle.interp_trait.specs.declared.turn.Given.TheVariants as given
use Rattle.replay_walk.specs.Standing.{IsToldOn, IsTurnedAt}
use Rattle.replay_walk.proofs.Told.{gone_on, awaits_at, within_at, turned_on}
use Rattle.search_scheduled.proofs.Answers.{takes_due}
use Rattle.search_scheduled.proofs.hearing.hear_due.Goals as goal

pub turn_at-requires-clause-within : goal.turn_at-requires-clause-within
turn_at-requires-clause-within g c =
    let stage = c.args.stage.now in
    within_at g.T.TakesTurns.meaning c.requires.standing.0 c.args.threads.now stage.queue stage.started stage.ends
    c.requires.standing.1 c.args.n c.in_ok-answer.answer (sym c.in_ok-answer.ensures.answer) c.in-None.is

pub turn_at-requires-clause-given : goal.turn_at-requires-clause-given
turn_at-requires-clause-given g c = λ x at.
    let stage = c.args.stage.now in
    let a = awaits_at g.T.TakesTurns.meaning c.requires.standing.0 c.args.threads.now stage.queue stage.started stage.ends
    c.requires.standing.1 c.args.n c.in_ok-answer.answer (sym c.in_ok-answer.ensures.answer) c.in-None.is x at in
    (a.0, a.1, (a.2, a.3))

pub returns-in-None-clause-told : goal.returns-in-None-clause-told
returns-in-None-clause-told g c = λ answer is s st.
    let stage = c.args.stage.now in
    let same : c.in_ok-answer.answer ≡ answer = cc is in
    let due : answer_due stage.queue c.args.n ≡ Some answer = sym c.in_ok-answer.ensures.answer ∙ ap (λ (a : Answer). Some a) same in
    subst (λ (q : WaitQueue). IsToldOn g.T.TakesTurns.meaning s c.args.n answer c.turn_at.new.threads q stage.started stage.ends)
    (sym c.in_ok-answer.ensures.after)
    (turned_on g.T.TakesTurns.meaning s c.args.threads.now stage.queue stage.started stage.ends st c.args.n answer
    due c.in-None.is c.turn_at.result c.turn_at.new.threads
    (subst (λ (a : Answer). (x : g.row.T.Denot) → slice_get c.args.threads.now c.args.n ≡ Some x
    → IsTurnedAt g.T.TakesTurns.meaning x (given.Told a) c.turn_at.result c.args.threads.now c.args.n c.turn_at.new.threads) same
    c.turn_at.ensures.turned))

pub returns-in-Some-clause-told : goal.returns-in-Some-clause-told
returns-in-Some-clause-told g c = λ answer is s st.
    let stage = c.args.stage.now in
    let same : c.in_ok-answer.answer ≡ answer = cc is in
    let due : answer_due stage.queue c.args.n ≡ Some answer = sym c.in_ok-answer.ensures.answer ∙ ap (λ (a : Answer). Some a) same in
    subst (λ (q : WaitQueue). IsToldOn g.T.TakesTurns.meaning s c.args.n answer c.args.threads.now q stage.started stage.ends)
    (sym c.in_ok-answer.ensures.after)
    (gone_on g.T.TakesTurns.meaning s c.args.threads.now stage.queue stage.started stage.ends st c.args.n answer
    due c.in-Some.field-0 c.in-Some.is)

pub returns-in-None-clause-queue : goal.returns-in-None-clause-queue
returns-in-None-clause-queue g c =
    takes_due c.args.n (Some c.in_ok-answer.answer) c.args.stage.now.queue _ c.in_ok-answer.ensures.answer c.in_ok-answer.ensures.after

pub returns-in-Some-clause-queue : goal.returns-in-Some-clause-queue
returns-in-Some-clause-queue g c =
    takes_due c.args.n (Some c.in_ok-answer.answer) c.args.stage.now.queue _ c.in_ok-answer.ensures.answer c.in_ok-answer.ensures.after
