-- Rows, and entries in words, with the names of their data.
use Rattle.std.specs.Prelude.{ℕ, ◌≡◌, Bool, List, [], ◌∷◌, ◌++◌, Option, Some}
use Rattle.std.specs.List.{slice_get}
use Rattle.std.specs.Io.KnownBytes.{Keeps}
use Rattle.types.specs.declared.event.Entry.{Entry}
use Rattle.selection.specs.declared.choice.Look.{Look}
use Rattle.show_text.specs.Rows.{RowText, AddsRow}
use Rattle.show_rows.specs.declared.listing.Shown.{Shown}
use Rattle.show_rows.specs.declared.listing.Story.{Story}
use Rattle.show_rows.specs.Entries.{entry_text}
use Rattle.show_rows.specs.Listing.{IsStoryOf, Says, chosen}
use Rattle.show_named.specs.declared.data_map.DataMap.{DataMap}
use Rattle.show_named.specs.Names.{IsDataText}

-- The name of the data of the entry at a place.
pub record IsDataAt (shown : Shown) (map : DataMap) (at : ℕ) (text : List ℕ) : Type 0 where
  pub made : Entry
  pub stands : slice_get shown.record.now.log at ≡ Some made
  pub named : IsDataText map made.event text

-- The name stands behind the words of a row, which is otherwise as it is.
abbrev pub with_name : RowText → List ℕ → RowText
with_name row text = record row { words = row.words ++ text }

-- A row says of the entry at a place what it says without names, and with the name of its data.
pub record SaysNamed (shown : Shown) (map : DataMap) (story : Story) (at : ℕ) (named : RowText) : Type 0 where
  pub row : RowText
  pub says : Says shown story at row
  pub name : List ℕ
  pub name_is : IsDataAt shown map at name
  pub is : named ≡ with_name row name

-- What is written is a row that says so of the entry at a place.
abbrev pub AddsEntry : Shown → DataMap → Story → ℕ → Option (List ℕ) → Option (List ℕ) → Type 0
AddsEntry shown map story at old new =
    (is_colored : Bool) × (row : RowText) × SaysNamed shown map story at row × AddsRow is_colored row old new

-- What is written is a row for each of these places, in order, and nothing else.
abbrev pub AddsEntries : Shown → DataMap → Story → List ℕ → Option (List ℕ) → Option (List ℕ) → Type 0
AddsEntries shown map story [] old new = Keeps old new
AddsEntries shown map story (at ∷ places) old new = (middle : Option (List ℕ))
    × AddsEntry shown map story at old middle × AddsEntries shown map story places middle new

-- A row for each entry that is chosen, by what the log says.
abbrev pub WritesRows : Shown → DataMap → Look → Option (List ℕ) → Option (List ℕ) → Type 0
WritesRows shown map look old new = (story : Story) × IsStoryOf shown.record.now.log story
    × AddsEntries shown map story (chosen shown look) old new

-- An entry in words, with the name of its data.
abbrev pub IsEntryText : Shown → DataMap → Story → ℕ → List ℕ → Type 0
IsEntryText shown map story at text = (row : RowText) × SaysNamed shown map story at row × (text ≡ entry_text row)
