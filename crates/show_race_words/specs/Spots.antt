-- Where an entry stands, and where it was made.
use Rattle.std.specs.Prelude.{ℕ, ◌≡◌, List, ◌++◌, codes, Some}
use Rattle.std.specs.List.{slice_get}
use Rattle.std.specs.Fmt.{decimal}
use Rattle.types.specs.declared.event.Entry.{Entry}
use Rattle.race_history.specs.declared.race.Race.{Race}
use Rattle.show_rows.specs.declared.listing.Shown.{Shown}
use Rattle.show_rows.specs.declared.listing.Story.{Story}
use Rattle.show_rows.specs.Entries.{behind}
use Rattle.show_rows.specs.Listing.{IsPlaceTextOf, line_at}

-- These entries are at the two places of a race.
pub record AreAt (log : List Entry) (r : Race) (first second : Entry) : Type 0 where
  pub first_is : slice_get log r.first ≡ Some first
  pub second_is : slice_get log r.second ≡ Some second

-- The line of the record that has the entry at a place, and where in the code it was made, as far as that is known.
abbrev pub IsSpot : Shown → Story → ℕ → List ℕ → Type 0
IsSpot shown story at text = (place : List ℕ) × IsPlaceTextOf shown story at place
    × (text ≡ codes "entry " ++ (decimal (line_at shown at) ++ behind place))
