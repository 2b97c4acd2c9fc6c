use Rattle.std.proofs.Common.{◌≡◌, List, ℕ, inl, subst, string_bytes}
use Rattle.std.proofs.lemmas.Option.{MatchOption-at_some}
use Rattle.std.proofs.lemmas.Result.{IfOk-weaker}
use Rattle.show_waits.specs.CycleTexts.{cycle_text}
use Rattle.show_waits.proofs.cycle_texts.cycle_of.Goals as goal

pub returns-in-Some : goal.returns-in-Some
returns-in-Some c =
    let is = MatchOption-at_some _ _ c.in-Some.others c.in-Some.is c.in_ok-others.ensures in
    IfOk-weaker c.words_of.result _ _
    (λ text words. inl (c.in-Some.others.items, is, subst (λ (l : List ℕ). string_bytes text ≡ cycle_text c.args.n l) c.as_slice.ensures.value words))
    c.words_of.ensures
