-- The words that are looked for in the lines of a run's threads.
use Rattle.std.specs.Prelude.{ℕ, ◌≡◌, ◌<◌, List, ◌++◌, length, slice_index_or, codes}
use Rattle.std.specs.Fmt.{decimal}
use Rattle.std.specs.Str.Iter.{HasSubslice}
use Rattle.types.specs.declared.outcome.Outcome.{Outcome}
use Rattle.types.specs.Outcomes.{outcome_text}

-- The line of a thread, but for its end.
abbrev pub line_of : ℕ → Outcome → List ℕ
line_of thread outcome = codes "thread " ++ (decimal thread ++ (codes ": " ++ outcome_text outcome))

-- The words stand in the line of the thread of this number, which ended so.
pub record HasWordsAt (words : List ℕ) (outcomes : List Outcome) (thread : ℕ) (outcome : Outcome) : Type 0 where
  pub within : thread < length outcomes
  pub ended : slice_index_or outcomes thread outcome ≡ outcome
  pub has : HasSubslice (line_of thread outcome) words

-- They stand in the line of some thread.
abbrev pub HasLineWith : List ℕ → List Outcome → Type 0
HasLineWith words outcomes = (thread : ℕ) × (outcome : Outcome) × HasWordsAt words outcomes thread outcome
