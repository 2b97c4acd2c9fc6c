use Rattle.std.proofs.Common.{sym, ap, subst, ◌∙◌, rules, List, Result, Ok, Err, IfOk}
use Rattle.std.proofs.lemmas.List.Sorted.{IsNonDecreasingBy-from_sort_by_key, list_any-IsPermutation}
use Rattle.std.specs.List.Sorted.{IsNonDecreasingBy}
use Rattle.selection.specs.declared.choice.NumberSpan.{NumberSpan}
use Rattle.selection.specs.declared.spans.Spans.{Spans}
use Rattle.selection.specs.Choices.{has, some_has, HaveSame}
use Rattle.selection.proofs.spans.Spans.new.Goals as goal

pub apart-requires : goal.apart-requires
apart-requires c =
    subst (λ (v : List NumberSpan). IsNonDecreasingBy (λ (span : NumberSpan). span.first) v) (sym c.deref.ensures.value)
    (IsNonDecreasingBy-from_sort_by_key (λ (span : NumberSpan). span.first) _ c.in_ok-sort_by_key.ensures.sorted (λ a r q k. search rules))

have_same : {E : Type 0} (made : Result Spans E) (a b : List NumberSpan) → HaveSame a b → IfOk made (λ all. HaveSame all.spans.items a)
    → IfOk made (λ all. HaveSame all.spans.items b)
have_same (Ok all) a b same is = λ n. is n ∙ same n
have_same (Err why) a b same is = tt

pub returns : goal.returns
returns c =
    have_same c.apart.result c.deref.result.now c.args.spans.items
    (λ n. ap (λ (v : List NumberSpan). some_has v n) c.deref.ensures.value
    ∙ sym (list_any-IsPermutation (λ (span : NumberSpan). has span n) _ _ c.sort_by_key.ensures.permutation))
    c.apart.ensures
