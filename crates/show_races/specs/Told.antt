-- What is told of the races of a recorded run.
use Rattle.std.specs.Prelude.{ℕ, ◌≡◌, ◌⊎◌, ◌<◌, ◌==◌, ◌&&◌, Bool, true, false, Option, Some, None, List, length, AllPairs, Contains}
use Rattle.std.specs.Prelude.{slice_index_or}
use Rattle.allowed_races.specs.declared.allowed.Allowed.{Allowed}
use Rattle.types.specs.declared.event.Entry.{Entry}
use Rattle.interp.specs.declared.place.CodePlace.{CodePlace}
use Rattle.race_history.specs.declared.access.ThreadAccess.{ThreadAccess}
use Rattle.race_history.specs.declared.access.Site.{Site}
use Rattle.race_history.specs.declared.race.Race.{Race}
use Rattle.race_history.specs.Races.{AreRacing, IsLastRace, IsEarlier, IsCut, IsRaceOf}
use Rattle.show_rows.specs.declared.listing.Shown.{Shown}
use Rattle.show_rows.specs.declared.listing.Story.{Story}
use Rattle.show_rows.specs.Listing.{caller_of, place_of}
use Rattle.show_races.specs.declared.found.Places.{Places}
use Rattle.show_races.specs.declared.found.TheConstants.{MOST_PAIRS}
use Rattle.show_races.specs.Sites.{opening_shown, sites_shown}

-- No two entries race.
abbrev pub HasNoRace : List Entry → List Site → ℕ → Type 0
HasNoRace log sites opening = (first second : ℕ) (a b : ThreadAccess) → AreRacing log sites opening first second a b → ⊥

-- Both entries of a pair are entries of the log.
abbrev pub IsWithin : List Entry → Race → Type 0
IsWithin log r = (r.first < length log) × (r.second < length log)

-- Where in the code the two entries of a race were made, and from where the functions were called in which they were.
abbrev pub places_of : Shown → Story → Race → Places
places_of shown story r = record {
  first = place_of shown story r.first;
  second = place_of shown story r.second;
  first_call = caller_of shown story r.first;
  second_call = caller_of shown story r.second;
}

abbrev pub is_same : Option CodePlace → Option CodePlace → Bool
is_same None None = true
is_same (Some a) (Some b) = (a.function == b.function) && (a.instr == b.instr)
is_same a b = false

abbrev pub is_alike : Places → Places → Bool
is_alike a b = ((is_same a.first b.first && is_same a.second b.second) && is_same a.first_call b.first_call)
    && is_same a.second_call b.second_call

-- They were made at the same two places of the code, called from the same two places.
abbrev pub AreAlike : Shown → Story → Race → Race → Type 0
AreAlike shown story r s = places_of shown story r ≡ places_of shown story s

-- One of these is like it.
abbrev pub IsTold : Shown → Story → List Race → Race → Type 0
IsTold shown story told r = (s : Race) × Contains told s × AreAlike shown story s r

-- No two of them are alike.
abbrev pub AreApart : Shown → Story → List Race → Type 0
AreApart shown story told = AllPairs (λ r s. AreAlike shown story r s → ⊥) told

-- A race among all that is like none before it.
pub record IsFirstAmong (shown : Shown) (story : Story) (all : List Race) (r : Race) : Type 0 where
  pub at : ℕ
  pub within : at < length all
  pub is : slice_index_or all at r ≡ r
  pub first : (k : ℕ) → k < at → AreAlike shown story (slice_index_or all k r) r → ⊥

-- Just so many are told, and one of all is like none of them.
pub record IsLeftOut (shown : Shown) (story : Story) (all told : List Race) (most : ℕ) : Type 0 where
  pub full : length told ≡ most
  pub other : Race
  pub among : Contains all other
  pub untold : IsTold shown story told other → ⊥

abbrev pub IsLastShown : Allowed → Shown → Race → Type 0
IsLastShown allowed shown r = IsLastRace shown.record.now.log (sites_shown allowed shown) (opening_shown shown) r

-- Of the races that are alike it is the first.
abbrev pub IsFirstThere : Allowed → Shown → Story → Race → Type 0
IsFirstThere allowed shown story r =
    (s : Race) → IsLastShown allowed shown s → AreAlike shown story s r → (r ≡ s) ⊎ IsEarlier r s

-- Of a race by these accesses: with the last entry that makes the first one, and the same second entry, it or one like
-- it is told.
pub record IsToldOf (allowed : Allowed) (shown : Shown) (story : Story) (told : List Race) (a b : ThreadAccess) (second : ℕ) : Type 0 where
  pub race : Race
  pub is : IsRaceOf shown.record.now.log (sites_shown allowed shown) (opening_shown shown) race a b
  pub met : race.second ≡ second
  pub is_told : IsTold shown story told race

-- Each race of the run is told, at its two places in the code and by their two calls.
abbrev pub TellsEach : Allowed → Shown → Story → List Race → Type 0
TellsEach allowed shown story told = (first second : ℕ) (a b : ThreadAccess)
    → AreRacing shown.record.now.log (sites_shown allowed shown) (opening_shown shown) first second a b → IsToldOf allowed shown story told a b second

-- Just so many are told, and a race is left out that is like none of them.
pub record IsMore (allowed : Allowed) (shown : Shown) (story : Story) (told : List Race) (most : ℕ) : Type 0 where
  pub full : length told ≡ most
  pub other : Race
  pub races : IsLastShown allowed shown other
  pub untold : IsTold shown story told other → ⊥

-- There are more races than are looked at.
abbrev pub AreMany : Allowed → Shown → Type 0
AreMany allowed shown = (looked : List Race) × IsCut shown.record.now.log (sites_shown allowed shown) (opening_shown shown) looked MOST_PAIRS
