-- What it is to note an ending in a table.
use Rattle.std.specs.Prelude.{ℕ, ◌≡◌, ◌≢◌, ◌+◌, ◌<◌, ◌++◌, List, [], ◌∷◌, All, Bool, length, slice_index_or, slice_set}
use Rattle.std.specs.Bool.{MatchBool}
use Rattle.search_endings.specs.Endings.{Ending}
use Rattle.search_finds.specs.declared.met.Met.{Met}
use Rattle.search_finds.specs.declared.met.EndingTable.{EndingTable}

-- No row of a table has this ending.
abbrev pub IsNewTo : EndingTable → Ending → Type 0
IsNewTo table e = All (λ m. m.ending ≢ e) table.met.items

-- The row at a place has it.
abbrev pub HasRowAt : EndingTable → Ending → ℕ → Type 0
HasRowAt table e place =
    (place < length table.met.items) × (m : Met) × (slice_index_or table.met.items place m ≡ m)
    × (m.ending ≡ e)

-- The ending was met in one run more than before: its count is one more, its first run is the same, and all others are
-- as they were.
pub record IsMetAgain (e : Ending) (old new : List Met) : Type 0 where
  pub place : ℕ
  pub within : place < length old
  pub was : Met
  pub was_there : slice_index_or old place was ≡ was
  pub same : was.ending ≡ e
  pub list : new ≡ slice_set old place (record was { times = was.times + 1 })

-- The ending wasn't met before: it stands last, met in this run alone.
pub record IsMetFirst (run : ℕ) (e : Ending) (old new : List Met) : Type 0 where
  pub new_one : All (λ m. m.ending ≢ e) old
  pub list : new ≡ old ++ record { ending = e; times = 1; first = run } ∷ []

-- A table has one run more, with this ending.
pub record IsNoted (run : ℕ) (e : Ending) (is_new : Bool) (old new : EndingTable) : Type 0 where
  pub runs : new.runs ≡ old.runs + 1
  pub met : MatchBool is_new (IsMetFirst run e old.met.items new.met.items) (IsMetAgain e old.met.items new.met.items)
