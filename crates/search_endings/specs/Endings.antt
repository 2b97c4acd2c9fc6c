-- How a run ends.
use Rattle.std.specs.Prelude.{ℕ, ◌≡◌, ◌↔◌, Bool, true, List, map, take, nat_eq}
use Rattle.std.specs.Ordering.{on, eq_of_both}
use Rattle.std.specs.Cmp.Lexicographic.{pointwise}
use Rattle.types.specs.declared.outcome.Outcome.{Outcome}
use Rattle.types.specs.declared.outcome.ThreadReport.{ThreadReport}
use Rattle.types.specs.contracts.outcome.OutcomePartialEq.TheImpl as outcomes

-- The outcomes of the threads, in order of their numbers, the page count, and so many first bytes.
pub record Ending : Type 0 where
  pub outcomes : List Outcome
  pub pages : ℕ
  pub bytes : List ℕ

-- Threads ended so, and the memory has so many pages and these bytes.
abbrev pub ending_with : ℕ → List Outcome → ℕ → List ℕ → Ending
ending_with dump outcomes pages memory = record { outcomes = outcomes; pages = pages; bytes = take dump memory }

-- Threads left these reports, whatever they have spent.
abbrev pub reported_outcome : ThreadReport → Outcome
reported_outcome report = report.outcome

abbrev pub reported_ending : ℕ → List ThreadReport → ℕ → List ℕ → Ending
reported_ending dump reports pages memory = ending_with dump (map reported_outcome reports) pages memory

-- Endings are compared by all that they say.
abbrev pub is_same_ending : Ending → Ending → Bool
is_same_ending = eq_of_both (on (λ e. e.pages) nat_eq)
    (eq_of_both (on (λ e. e.outcomes) (pointwise outcomes.eq-value.it)) (on (λ e. e.bytes) (pointwise nat_eq)))

abbrev pub EqualEndingsAreTheSame : Type 0
EqualEndingsAreTheSame = (x y : Ending) → (is_same_ending x y ≡ true) ↔ (x ≡ y)
