use Rattle.std.proofs.Common.{◌≡◌, ◌<◌, ◌≤◌, ℕ, List, length, get_or, sym, subst}
use Rattle.std.specs.List.Sorted.{IsBinarySearchResult}
use Rattle.std.specs.Ordering.{nat_cmp}
use Rattle.std.proofs.lemmas.List.Sorted.{searched}
use Rattle.std.proofs.lemmas.Result.{MatchResult-at_err}
use Rattle.race_history.specs.Found.{HaveMore}
use Rattle.race_history.proofs.Clashing.{inserted, rising}
use Rattle.race_history.proofs.found.insert.Goals as goal

abbrev IsThere : List ℕ → ℕ → ℕ → Type 0
IsThere xs y i = (i < length xs) × (get_or xs i 0 ≡ y)

abbrev IsBetween : List ℕ → ℕ → ℕ → Type 0
IsBetween xs y i =
    (i ≤ length xs) × ((k : ℕ) → k < i → get_or xs k 0 < y) × ((k : ℕ) → i ≤ k → k < length xs → y < get_or xs k 0)

pub returns-in_ok-insert : goal.returns-in_ok-insert
returns-in_ok-insert c =
    let places = c.args.places.now.items in
    let place = c.args.place in
    let position = subst (λ (l : List ℕ). IsBinarySearchResult (λ y. nat_cmp y place) l c.binary_search.result) c.deref.ensures.value
    c.binary_search.ensures.position in
    let at = MatchResult-at_err (IsThere places place) (IsBetween places place) c.in-Err.at c.in-Err.is
    (searched places place c.binary_search.result position (rising places c.requires)) in
    subst (λ (l : List ℕ). HaveMore places l (λ p. p ≡ place)) (sym c.in_ok-insert.ensures.items)
    (inserted places c.in-Err.at place at.0 c.requires at.1 at.2)
