-- Races by the clocks.
use Rattle.std.specs.Prelude.{ℕ, ◌≡◌, ◌<◌, ◌⊎◌, ◌&&◌, Bool, true, nat_le, List, Contains, AllPairs, slice_index}
use Rattle.race_history.specs.declared.access.ThreadAccess.{ThreadAccess}
use Rattle.race_history.specs.declared.lasts.Last.{Last}
use Rattle.race_history.specs.declared.race.Race.{Race}
use Rattle.race_history.specs.Lasts.{list_for}
use Rattle.race_history.specs.Tests.{conflicts}

-- They conflict, and the earlier one doesn't happen before the entry with this clock.
abbrev pub clashes : ThreadAccess → List ℕ → Last → Bool
clashes a clock x = conflicts x.access a && nat_le (slice_index clock x.access.thread) x.place

-- One of the list clashes with the access, and was made at this place.
abbrev pub IsClash : ThreadAccess → List ℕ → List Last → ℕ → Type 0
IsClash a clock list place = (x : Last) × (Contains list x × ((clashes a clock x ≡ true) × (x.place ≡ place)))

-- The same with one of these accesses.
abbrev pub IsClashOf : List ThreadAccess → List ℕ → List (List Last) → ℕ → Type 0
IsClashOf accesses clock lists place =
    (a : ThreadAccess) × (Contains accesses a × IsClash a clock (list_for lists a.addr) place)

abbrev pub IsLess : ℕ → ℕ → Type 0
IsLess i j = i < j

-- In order, and none twice.
abbrev pub AreAscending : List ℕ → Type 0
AreAscending places = AllPairs IsLess places

-- The new places, in order, are the old ones and those of the kind.
pub record HaveMore (old new : List ℕ) (IsOne : ℕ → Type 0) : Type 0 where
  pub in_order : AreAscending new
  pub from : (place : ℕ) → Contains new place → Contains old place ⊎ IsOne place
  pub all : (place : ℕ) → Contains old place ⊎ IsOne place → Contains new place

abbrev pub race_to : ℕ → ℕ → Race
race_to second first = record { first = first; second = second }
