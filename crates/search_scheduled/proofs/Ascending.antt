-- Numbers in ascending order, to which a higher one is added.
use Rattle.std.proofs.Common.{ℕ, ◌+◌, ◌<◌, List, [], ◌∷◌, ◌++◌, All, arith}
use Rattle.std.proofs.lemmas.List.Elements.{All-nil, All-head, All-tail, All-push}
use Rattle.search_scheduled.specs.Courses.{AreAscending}

abbrev pub AreBelow : ℕ → List ℕ → Type 0
AreBelow n = All (λ m. m < n)

pub ascends : (xs : List ℕ) (n : ℕ) → AreAscending xs → AreBelow n xs → AreAscending (xs ++ n ∷ [])
ascends [] n up below = (All-nil (λ (m : ℕ). n < m), tt)
ascends (x ∷ xs) n up below = (
  All-push (λ (m : ℕ). x < m) xs n up.0 (All-head (λ (m : ℕ). m < n) x xs below),
  ascends xs n up.1 (All-tail (λ (m : ℕ). m < n) x xs below),
)

pub below_on : (n : ℕ) (xs : List ℕ) → AreBelow n xs → AreBelow (n + 1) xs
below_on n xs below = λ k d within. let less = below k d within in omega (arith, less)

pub below_then : (n : ℕ) (xs : List ℕ) → AreBelow n xs → AreBelow (n + 1) (xs ++ n ∷ [])
below_then n xs below = All-push (λ (m : ℕ). m < n + 1) xs n (below_on n xs below) (omega arith)
