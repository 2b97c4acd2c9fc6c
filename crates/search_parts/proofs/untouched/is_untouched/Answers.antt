use Rattle.std.proofs.Common.{◌≡◌, sym, ◌∙◌, ap}
use Rattle.std.proofs.lemmas.Bool.{not-true, eqb-false}
use Rattle.search_parts.specs.declared.event.Begun.{Begun}
use Rattle.search_parts.proofs.Untouching.{untouched, not_some}
use Rattle.search_parts.proofs.untouched.is_untouched.Goals as goal

pub returns-in_default-clause-untouched : goal.returns-in_default-clause-untouched
returns-in_default-clause-untouched c = λ so.
    untouched c.args.made.now c.args.n c.args.m c.if-n-m.false
    (sym c.due.ensures ∙ not_some c.due.result (sym c.is_some.ensures ∙ c.if-is_some.false)) (λ g is. absurd (c.in_default.not-Some g is))

pub returns-clause-untouched : goal.returns-clause-untouched
returns-clause-untouched c = λ so.
    untouched c.args.made.now c.args.n c.args.m c.if-n-m.false
    (sym c.due.ensures ∙ not_some c.due.result (sym c.is_some.ensures ∙ c.if-is_some.false))
    (λ g is here. (let x = c.in-Some.is in let same : c.in-Some.begun ≡ g = cc (x, is) in
    eqb-false c.in-Some.begun.id c.args.m (not-true _ so) (ap (λ (h : Begun). h.id) same ∙ here)))
