-- What is told of the calls that led to the two entries of a race, and of which entries they are told.
use Rattle.std.specs.Prelude.{ℕ, ◌≡◌, List, [], ◌∷◌, ◌++◌, codes, Option, Some, None}
use Rattle.std.specs.List.{AllZip, concat}
use Rattle.std.specs.Fmt.{decimal}
use Rattle.types.specs.declared.event.Entry.{Entry}
use Rattle.interp.specs.declared.place.CodePlace.{CodePlace}
use Rattle.race_history.specs.declared.race.Race.{Race}
use Rattle.show_rows.specs.declared.code.CodeMap.{CodeMap}
use Rattle.show_rows.specs.declared.listing.Shown.{Shown}
use Rattle.show_rows.specs.declared.listing.Story.{Story}
use Rattle.show_rows.specs.Listing.{IsPlaceText, place_of}
use Rattle.show_stacks.specs.declared.texts.StacksView.{StacksView}
use Rattle.show_stacks.specs.Stacks.{calls_at}
use Rattle.show_stacks.specs.Texts.{IsCallsText}
use Rattle.show_race_words.specs.declared.blocks.Block.{Block}
use Rattle.show_race_words.specs.Blocks.{IsBlockOf}
use Rattle.show_race_words.specs.Spots.{AreAt}

-- Of a race the places of its two entries, and of the one that gave out the block in which they touch a byte.
abbrev pub places_with : Race → Option Block → List ℕ
places_with r None = r.first ∷ r.second ∷ []
places_with r (Some block) = r.first ∷ r.second ∷ block.at ∷ []

abbrev pub ArePlacesOf : Shown → Race → List ℕ → Type 0
ArePlacesOf shown r places = (block : Option Block) × IsBlockOf shown r block × (places ≡ places_with r block)

abbrev pub AddsPlaces : Shown → Race → List ℕ → List ℕ → Type 0
AddsPlaces shown r old new = (places : List ℕ) × ArePlacesOf shown r places × (new ≡ old ++ places)

-- Those of each race, one behind the other.
abbrev pub AreStackPlaces : Shown → List Race → List ℕ → Type 0
AreStackPlaces shown pairs places =
    (each : List (List ℕ)) × AllZip (ArePlacesOf shown) pairs each × (places ≡ concat each)

-- The text of a place, and behind it this text of calls; nothing where that is empty.
abbrev pub IsLineOfCalls : CodeMap → Option CodePlace → ℕ → List ℕ → List ℕ → Type 0
IsLineOfCalls code place thread [] text = text ≡ []
IsLineOfCalls code place thread (c ∷ calls) text = (spot : List ℕ) × IsPlaceText code place spot
    × (text ≡ codes "  t" ++ (decimal thread ++ (codes " was in " ++ (spot ++ ((c ∷ calls) ++ codes "\n")))))

-- Where an entry was made, and the calls that led there.
abbrev pub IsStackLine : Shown → Story → StacksView → ℕ → ℕ → List ℕ → Type 0
IsStackLine shown story stacks thread at text = (calls : List ℕ)
    × IsCallsText stacks.code.now (calls_at stacks.stacks.now at) calls
    × IsLineOfCalls stacks.code.now (place_of shown story at) thread calls text

-- In which calls the threads of the two entries were when they made them.
pub record AreStacks (shown : Shown) (story : Story) (stacks : StacksView) (r : Race) (text : List ℕ) : Type 0 where
  pub first : Entry
  pub second : Entry
  pub at : AreAt shown.record.now.log r first second
  pub one : List ℕ
  pub one_is : IsStackLine shown story stacks first.thread r.first one
  pub other : List ℕ
  pub other_is : IsStackLine shown story stacks second.thread r.second other
  pub is : text ≡ one ++ other
