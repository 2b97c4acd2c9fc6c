use Rattle.std.proofs.Common.{◌≡◌, Some, sym, ◌∙◌, subst}
use Rattle.shared_memory.specs.WaitQueue.{WaitQueue, answer_due, after_answer}
use Rattle.replay_walk.specs.Standing.{IsToldOn}
use Rattle.replay_walk.proofs.Apart.{isnt_true, isnt_false, found_in, same_found}
use Rattle.replay_walk.proofs.Told.{due_at, gone_on, awaits_at, within_at, turned_on}
use Rattle.replay_walk.proofs.stage.Stage.tell.Goals as goal

pub returns-in_default-clause-refused : goal.returns-in_default-clause-refused
returns-in_default-clause-refused g c = λ no s st due.
    let is : answer_due c.args.self.now.queue c.args.n ≡ Some c.args.answer =
    due_at g.T.TakesTurns.meaning s c.args.threads.now c.args.self.now.queue c.args.self.now.started c.args.self.now.ends st c.args.n c.args.answer due in
    c.in_default.not-Some c.args.answer (c.told.ensures.answer ∙ is)

pub returns-then-not-is_same_answer-clause-refused : goal.returns-then-not-is_same_answer-clause-refused
returns-then-not-is_same_answer-clause-refused g c = λ no s st due.
    let is : answer_due c.args.self.now.queue c.args.n ≡ Some c.args.answer =
    due_at g.T.TakesTurns.meaning s c.args.threads.now c.args.self.now.queue c.args.self.now.started c.args.self.now.ends st c.args.n c.args.answer due in
    let same : c.in-Some.due ≡ c.args.answer = same_found c.in-Some.is c.told.ensures.answer is in
    c.is_same_answer.ensures.other c.if-not-is_same_answer.true same

pub turn_at-requires-clause-within : goal.turn_at-requires-clause-within
turn_at-requires-clause-within g c =
    let same : c.in-Some.due ≡ c.args.answer = c.is_same_answer.ensures.same c.if-not-is_same_answer.false in
    let is : answer_due c.args.self.now.queue c.args.n ≡ Some c.args.answer = found_in c.in-Some.is c.told.ensures.answer same in
    within_at g.T.TakesTurns.meaning c.requires.standing.0 c.args.threads.now c.args.self.now.queue c.args.self.now.started c.args.self.now.ends
    c.requires.standing.1 c.args.n c.args.answer is c.in-None.is

pub turn_at-requires-clause-given : goal.turn_at-requires-clause-given
turn_at-requires-clause-given g c = λ x at.
    let same : c.in-Some.due ≡ c.args.answer = c.is_same_answer.ensures.same c.if-not-is_same_answer.false in
    let is : answer_due c.args.self.now.queue c.args.n ≡ Some c.args.answer = found_in c.in-Some.is c.told.ensures.answer same in
    let a = awaits_at g.T.TakesTurns.meaning c.requires.standing.0 c.args.threads.now c.args.self.now.queue c.args.self.now.started c.args.self.now.ends
    c.requires.standing.1 c.args.n c.args.answer is c.in-None.is x at in
    (a.0, a.1, (a.2, a.3))

pub returns-in-None-clause-told : goal.returns-in-None-clause-told
returns-in-None-clause-told g c = λ yes s st.
    let same : c.in-Some.due ≡ c.args.answer = c.is_same_answer.ensures.same c.if-not-is_same_answer.false in
    let is : answer_due c.args.self.now.queue c.args.n ≡ Some c.args.answer = found_in c.in-Some.is c.told.ensures.answer same in
    let after : c.told.new.self ≡ after_answer c.args.self.now.queue c.args.n = c.in-Some.ensures.after in
    subst (λ (q : WaitQueue). IsToldOn g.T.TakesTurns.meaning s c.args.n c.args.answer c.turn_at.new.threads q
    c.args.self.now.started c.args.self.now.ends) (sym after)
    (turned_on g.T.TakesTurns.meaning s c.args.threads.now c.args.self.now.queue c.args.self.now.started c.args.self.now.ends st c.args.n c.args.answer
    is c.in-None.is c.turn_at.result c.turn_at.new.threads c.turn_at.ensures.turned)

pub returns-in-Some-ends-clause-told : goal.returns-in-Some-ends-clause-told
returns-in-Some-ends-clause-told g c = λ yes s st.
    let same : c.in-Some.due ≡ c.args.answer = c.is_same_answer.ensures.same c.if-not-is_same_answer.false in
    let is : answer_due c.args.self.now.queue c.args.n ≡ Some c.args.answer = found_in c.in-Some.is c.told.ensures.answer same in
    let after : c.told.new.self ≡ after_answer c.args.self.now.queue c.args.n = c.in-Some.ensures.after in
    subst (λ (q : WaitQueue). IsToldOn g.T.TakesTurns.meaning s c.args.n c.args.answer c.args.threads.now q
    c.args.self.now.started c.args.self.now.ends) (sym after)
    (gone_on g.T.TakesTurns.meaning s c.args.threads.now c.args.self.now.queue c.args.self.now.started c.args.self.now.ends st c.args.n c.args.answer
    is c.in-Some-ends.field-0 c.in-Some-ends.is)

pub returns-in_default-clause-told : goal.returns-in_default-clause-told
returns-in_default-clause-told g c = λ yes. isnt_true yes

pub returns-then-not-is_same_answer-clause-told : goal.returns-then-not-is_same_answer-clause-told
returns-then-not-is_same_answer-clause-told g c = λ yes. isnt_true yes

pub returns-in-None-clause-refused : goal.returns-in-None-clause-refused
returns-in-None-clause-refused g c = λ no. isnt_false no

pub returns-in-None-clause-kept : goal.returns-in-None-clause-kept
returns-in-None-clause-kept g c = λ no. isnt_false no

pub returns-in-Some-ends-clause-refused : goal.returns-in-Some-ends-clause-refused
returns-in-Some-ends-clause-refused g c = λ no. isnt_false no

pub returns-in-Some-ends-clause-kept : goal.returns-in-Some-ends-clause-kept
returns-in-Some-ends-clause-kept g c = λ no. isnt_false no
