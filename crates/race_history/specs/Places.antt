-- What stands at a place of a history. Places are numbered from 0.
use Rattle.std.specs.Prelude.{ℕ, ◌≡◌, ◌<◌, Bool, true, false, List, length, map, Contains, slice_index, slice_index_or}
use Rattle.types.specs.declared.event.Entry.{Entry}
use Rattle.types.specs.declared.event.Event.{Event}
use Rattle.types.specs.declared.event.Event.TheVariants.{Told}
use Rattle.race_history.specs.declared.access.ThreadAccess.{ThreadAccess}
use Rattle.race_history.specs.declared.access.Site.{Site}
use Rattle.race_history.specs.Accesses.{accesses_of}

-- A list has this at a place.
pub record IsAt {X : Type 0} (xs : List X) (place : ℕ) (x : X) : Type 0 where
  pub within : place < length xs
  pub is : slice_index_or xs place x ≡ x

-- The entry at a place makes this access.
pub record IsAccess (log : List Entry) (sites : List Site) (opening place : ℕ) (a : ThreadAccess) : Type 0 where
  pub entry : Entry
  pub site : Site
  pub entered : IsAt log place entry
  pub sited : IsAt sites place site
  pub made : Contains (accesses_of entry site opening) a

-- Whose entry stands at a place.
abbrev pub thread_at : List Entry → ℕ → ℕ
thread_at log place = slice_index (map (λ (e : Entry). e.thread) log) place

abbrev pub is_told : Event → Bool
is_told (Told answer) = true
is_told _ = false

-- An answer is taken at a place.
abbrev pub is_told_at : List Entry → ℕ → Bool
is_told_at log place = slice_index_or (map (λ (e : Entry). is_told e.event) log) place false
