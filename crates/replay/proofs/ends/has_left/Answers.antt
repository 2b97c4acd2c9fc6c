use Rattle.std.proofs.Common.{◌≡◌, ◌+◌, Some, None, sym, ◌∙◌, ap, subst, slice_get, length}
use Rattle.std.proofs.lemmas.Bool.{both_ways, lt-ltb}
use Rattle.std.proofs.lemmas.Option.{slice_get-get_or, slice_get_within}
use Rattle.types.specs.declared.outcome.ThreadReport.{ThreadReport}
use Rattle.interp_trait.specs.Turns.{left_of}
use Rattle.replay.proofs.Lines.{seen, left}
use Rattle.replay.proofs.ends.has_left.Goals as goal

same_some : {A : Type 0} {a b : A} → Some a ≡ Some b → a ≡ b
same_some e = cc e

pub returns-then-has_open_question-clause-other : goal.returns-then-has_open_question-clause-other
returns-then-has_open_question-clause-other g c = λ no s r e h.
    let is = seen g.T.TakesTurns.meaning s c.args.threads.now c.args.stage.now.queue c.args.stage.now.started c.args.stage.now.ends r e
    c.args.number c.args.report.now h in
    both_ways c.has_open_question.result (c.has_open_question.ensures ∙ is.closed) c.if-has_open_question.true

pub returns-clause-left : goal.returns-clause-left
returns-clause-left g c = λ yes s r e.
    let thread = c.in-Some.ensures.lookup.3 in
    let ended = c.in-Some-Some.ensures.lookup.3 in
    let same = c.is_same_report.ensures.same yes in
    left g.T.TakesTurns.meaning s c.args.threads.now c.args.stage.now.queue c.args.stage.now.started c.args.stage.now.ends r e c.args.number c.args.report.now
    c.in-Some.thread.now (slice_get-get_or c.args.threads.now c.args.number c.in-Some.thread.now thread.0
    ∙ ap (λ z. Some z) (sym (thread.1 c.in-Some.thread.now)))
    (sym (ended.1 None) ∙ (c.in-Some-Some.field-0-is ∙ ap (λ (z : ThreadReport). Some z.outcome) same))
    (sym c.has_open_question.ensures ∙ c.if-has_open_question.false)
    (λ t stands. ap (λ (z : ThreadReport). z.spent + left_of t) (sym same) ∙ c.spent.ensures t stands)

pub returns-clause-other : goal.returns-clause-other
returns-clause-other g c = λ no s r e h.
    let thread = c.in-Some.ensures.lookup.3 in
    let ended = c.in-Some-Some.ensures.lookup.3 in
    let is = seen g.T.TakesTurns.meaning s c.args.threads.now c.args.stage.now.queue c.args.stage.now.started
    c.args.stage.now.ends r e c.args.number c.args.report.now h in
    let there : slice_get c.args.threads.now c.args.number ≡ Some c.in-Some.thread.now =
    slice_get-get_or c.args.threads.now c.args.number c.in-Some.thread.now thread.0 ∙ ap (λ z. Some z)
    (sym (thread.1 c.in-Some.thread.now)) in
    let same : c.in-Some.thread.now ≡ is.thread = same_some (sym there ∙ is.at) in
    let spent : c.spent.result ≡ c.args.report.now.spent =
    is.spent c.spent.result (λ t stands. c.spent.ensures t (subst (λ x. (g.T.TakesTurns.meaning x).stands t)
    (sym same) stands) ∙ ap
    (λ z. (g.T.TakesTurns.meaning z).fuel) same) in
    let outcome : c.in-Some-Some.outcome ≡ c.args.report.now.outcome =
    same_some (sym c.in-Some-Some.field-0-is ∙ (ended.1 None ∙ is.outcome)) in
    c.is_same_report.ensures.other no (λ i. record { outcome = outcome i; spent = spent i })

pub returns-in_default-clause-other : goal.returns-in_default-clause-other
returns-in_default-clause-other g c = λ no s r e h.
    let is = seen g.T.TakesTurns.meaning s c.args.threads.now c.args.stage.now.queue c.args.stage.now.started c.args.stage.now.ends r e
    c.args.number c.args.report.now h in
    let there = slice_get_within c.args.threads.now c.args.number is.thread is.at in
    both_ways _ (sym c.in_default.ensures.lookup.0) (lt-ltb c.args.number (length c.args.threads.now) there)
