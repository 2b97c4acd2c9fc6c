-- Which of the threads that can go on a thread is.
use Rattle.std.specs.Prelude.{◌≡◌, ◌≤◌, ℕ, true, List, length, filter, take, get_or, Option, Some, None}
use Rattle.std.specs.Option.{is_some}

-- How many before thread n can go on.
abbrev pub choice_of : {A : Type 0} → List (Option A) → ℕ → ℕ
choice_of wanted n = length (filter is_some (take n wanted))

-- The thread can go on, and so many before it can; or there are no more than so many.
abbrev pub IsChoice : {A : Type 0} → List (Option A) → ℕ → Option ℕ → Type 0
IsChoice wanted choice (Some n) = (is_some (get_or wanted n None) ≡ true) × (choice_of wanted n ≡ choice)
IsChoice wanted choice None = choice_of wanted (length wanted) ≤ choice
