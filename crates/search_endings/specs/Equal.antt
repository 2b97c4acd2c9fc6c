-- Endings that are equal are the same, and equality is an equivalence.
use Rattle.std.specs.Prelude.{◌≡◌, ◌&&◌, true, nat_eq}
use Rattle.std.specs.Cmp.{IsEquivalence, first_so, second_so, nat_eq_equiv, on_equiv, and_equiv}
use Rattle.std.specs.Cmp.Lexicographic.{pointwise, nat_list_eq_equiv, lists_equiv}
use Rattle.std.proofs.Common.{subst}
use Rattle.std.proofs.lemmas.Bool.{eqb-true}
use Rattle.types.specs.contracts.outcome.OutcomePartialEq.TheImpl as outcome_eq
use Rattle.types.specs.contracts.outcome.OutcomeEq.TheImpl.Laws.{laws-law}
use Rattle.search_endings.specs.Outcomes.{same_outcome, same_list}
use Rattle.search_endings.specs.Endings.{Ending, is_same_ending}

pub same_ending_equiv : IsEquivalence is_same_ending
same_ending_equiv =
    and_equiv (on_equiv (λ (e : Ending). e.pages) nat_eq_equiv)
    (and_equiv (on_equiv (λ (e : Ending). e.outcomes) (lists_equiv laws-law))
    (on_equiv (λ (e : Ending). e.bytes) nat_list_eq_equiv))

pub equal_ones : (x y : Ending) → is_same_ending x y ≡ true → x ≡ y
equal_ones x y e =
    let outcomes_so = pointwise outcome_eq.eq-value.it x.outcomes y.outcomes in
    let bytes_so = pointwise nat_eq x.bytes y.bytes in
    let rest = second_so (nat_eq x.pages y.pages) (outcomes_so && bytes_so) e in
    let pages = eqb-true x.pages y.pages (first_so (nat_eq x.pages y.pages) (outcomes_so && bytes_so) e) in
    let outcomes = same_list outcome_eq.eq-value.it same_outcome x.outcomes y.outcomes
    (first_so outcomes_so bytes_so rest) in
    let bytes = same_list nat_eq (λ a b so. eqb-true a b so) x.bytes y.bytes (second_so outcomes_so bytes_so rest) in
    λ i. record { outcomes = outcomes i; pages = pages i; bytes = bytes i }

pub same_ones : (x y : Ending) → x ≡ y → is_same_ending x y ≡ true
same_ones x y same = subst (λ (z : Ending). is_same_ending x z ≡ true) same (same_ending_equiv.refl x)
