-- What an object has of an entry, that of a show of the entries that are chosen, and that of races of two that race.
use Rattle.std.specs.Prelude.{ℕ, ◌≡◌, ◌||◌, Bool, false, true, List, nat_lt, OnSome, Option, Some, None}
use Rattle.std.specs.Borrow.{Bor}
use Rattle.std.specs.List.{AllZip, slice_get}
use Rattle.std.specs.Io.KnownBytes.{Appends}
use Rattle.types.specs.declared.event.Entry.{Entry}
use Rattle.race_history.specs.declared.access.ThreadAccess.{ThreadAccess}
use Rattle.race_history.specs.declared.access.AccessKind.{AccessKind}
use Rattle.race_history.specs.declared.access.Site.{Site}
use Rattle.race_history.specs.declared.access.AccessKind.TheVariants.{Plain, Atomic}
use Rattle.race_history.specs.declared.race.Race.{Race}
use Rattle.interp.specs.declared.place.CodePlace.{CodePlace}
use Rattle.selection.specs.declared.choice.Look.{Look}
use Rattle.show_json.specs.Json.{json_line}
use Rattle.show_json.specs.Rows.{races_json, rows_json, rows_text}
use Rattle.show_json.specs.declared.places.Offset.{Offset}
use Rattle.show_json.specs.declared.places.PlaceObject.{PlaceObject}
use Rattle.show_json.specs.declared.places.SourceObject.{SourceObject}
use Rattle.show_json.specs.declared.rows.NamedRow.{NamedRow}
use Rattle.show_json.specs.declared.rows.RowObject.{RowObject}
use Rattle.show_json.specs.declared.races.NextWrite.{NextWrite}
use Rattle.show_json.specs.declared.races.RaceEntry.{RaceEntry}
use Rattle.show_json.specs.declared.races.RacePair.{RacePair}
use Rattle.show_json.specs.declared.races.RacePairs.{RacePairs}
use Rattle.show_races.specs.Releases.{IsNextWrite, access_at, changes_pages}
use Rattle.show_races.specs.declared.found.RecordRaces.{RecordRaces}
use Rattle.show_named.specs.Names.{HasData}
use Rattle.show_named.specs.declared.data_map.DataMap.{DataMap}
use Rattle.show_rows.specs.Listing.{AreWordsOf, IsStoryOf, chosen, line_at, place_of}
use Rattle.show_rows.specs.Spots.{IsSpotOf}
use Rattle.show_rows.specs.declared.code.CodeMap.{CodeMap}
use Rattle.show_rows.specs.declared.listing.Shown.{Shown}
use Rattle.show_rows.specs.declared.listing.Story.{Story}
use Rattle.show_spots.specs.declared.spot.Spot.{Spot}

-- An offset, and a line of source, as they are known.
abbrev pub IsOffset : Option ℕ → Option Offset → Type 0
IsOffset None None = Unit {0}
IsOffset (Some n) (Some offset) = offset.0 ≡ n
IsOffset known offset = ⊥

abbrev pub IsSource : Option (Bor (List ℕ) × ℕ) → Option SourceObject → Type 0
IsSource None None = Unit {0}
IsSource (Some known) (Some source) = (source.file ≡ known.0) × (source.line ≡ known.1)
IsSource known source = ⊥

-- A place in the code: its function, and its offset and its line of source, as far as they are known.
pub record IsPlaceOf (spot : Spot) (place : PlaceObject) : Type 0 where
  pub function : place.function ≡ spot.name
  pub offset : IsOffset spot.offset place.offset
  pub source : IsSource spot.source place.source

-- Where an entry was made, if that is known.
abbrev pub IsPlaceAt : CodeMap → Option CodePlace → Option PlaceObject → Type 0
IsPlaceAt code None None = Unit {0}
IsPlaceAt code (Some at) (Some place) = (spot : Spot) × IsSpotOf code at spot × IsPlaceOf spot place
IsPlaceAt code known place = ⊥

-- The entry at a place of the log: its line of the record, its words, and where it was made.
pub record IsRowOf (shown : Shown) (story : Story) (at : ℕ) (made : Entry) (row : RowObject) : Type 0 where
  pub line : row.line ≡ line_at shown at
  pub words : AreWordsOf shown story at made row.words
  pub place : IsPlaceAt shown.code.now (place_of shown story at) row.place

-- That row, and the name of its data: only of an entry that is about static data.
pub record IsNamedRowAt (shown : Shown) (map : DataMap) (story : Story) (at : ℕ) (named : NamedRow) : Type 0 where
  pub made : Entry
  pub stands : slice_get shown.record.now.log at ≡ Some made
  pub row_of : IsRowOf shown story at made named.row
  pub named_as : OnSome named.name (HasData map made.event)

-- What was written are the rows of the entries at these places, in order.
abbrev pub AddsRows : Shown → DataMap → Story → List ℕ → Option (List ℕ) → Option (List ℕ) → Type 0
AddsRows shown map story places old new = (rows : List NamedRow) × AllZip (IsNamedRowAt shown map story) places rows
    × Appends old new (rows_text rows)

-- What was written is one object: of the entries that are chosen, in order.
pub record WritesObject (shown : Shown) (map : DataMap) (look : Look) (old new : Option (List ℕ)) : Type 0 where
  pub story : Story
  pub is_story : IsStoryOf shown.record.now.log story
  pub rows : List NamedRow
  pub each : AllZip (IsNamedRowAt shown map story) (chosen shown look) rows
  pub object : Appends old new (json_line (rows_json rows))

-- By an atomic instruction.
abbrev pub is_atomic_kind : AccessKind → Bool
is_atomic_kind Plain = false
is_atomic_kind Atomic = true

abbrev pub is_atomic_site : Option Site → Bool
is_atomic_site None = false
is_atomic_site (Some site) = is_atomic_kind site.kind

-- The first byte of an access to bytes, and how many it touches; a grow that races with a bounds check makes none.
abbrev pub first_byte : Option ThreadAccess → ℕ
first_byte None = 0
first_byte (Some a) = a.addr

abbrev pub width_of : Option ThreadAccess → ℕ
width_of None = 0
width_of (Some a) = a.width

-- The entry at a place, with what it touches, and how.
pub record IsEntryOf (shown : Shown) (story : Story) (sites : List Site) (at : ℕ) (e : RaceEntry) : Type 0 where
  pub made : Entry
  pub stands : slice_get shown.record.now.log at ≡ Some made
  pub row : IsRowOf shown story at made e.row
  pub atomic : e.is_atomic ≡ is_atomic_site (slice_get sites at)
  pub addr : e.addr ≡ first_byte (access_at shown.record.now.log sites at)
  pub width : e.width ≡ width_of (access_at shown.record.now.log sites at)

-- The next atomic write of a thread: its line of the record, and whether it stands before a second entry.
abbrev pub IsWriteOf : Shown → ℕ → Option ℕ → Option NextWrite → Type 0
IsWriteOf shown second None None = Unit {0}
IsWriteOf shown second (Some at) (Some next) = (next.line ≡ line_at shown at) × (next.is_between ≡ nat_lt at second)
IsWriteOf shown second known next = ⊥

-- The next one of the thread that makes the first entry of a race, behind that.
pub record IsNextOf (shown : Shown) (sites : List Site) (r : Race) (write : Option NextWrite) : Type 0 where
  pub made : Entry
  pub stands : slice_get shown.record.now.log r.first ≡ Some made
  pub next : Option ℕ
  pub is_next : IsNextWrite shown.record.now.log sites made.thread r.first next
  pub is : IsWriteOf shown r.second next write

-- One of the two changes the number of pages, and so the other looks at it: no entry that does touches a byte.
abbrev pub is_change : Option Entry → Bool
is_change None = false
is_change (Some made) = changes_pages made

abbrev pub is_of_pages : List Entry → Race → Bool
is_of_pages log r = is_change (slice_get log r.first) || is_change (slice_get log r.second)

-- Two entries that race, and that write.
pub record IsPairOf (shown : Shown) (story : Story) (sites : List Site) (r : Race)
    (pair : RacePair) : Type 0 where
  pub pages : pair.is_of_pages ≡ is_of_pages shown.record.now.log r
  pub first : IsEntryOf shown story sites r.first pair.first
  pub second : IsEntryOf shown story sites r.second pair.second
  pub next : IsNextOf shown sites r pair.next_write

-- What was written is the object of each of these races, in order, which says whether that are all.
pub record WritesPairs (shown : Shown) (story : Story) (races : RecordRaces) (old new : Option (List ℕ)) : Type 0 where
  pub pairs : RacePairs
  pub each : AllZip (IsPairOf shown story races.sites.items) races.pairs.items pairs.pairs.now
  pub more : pairs.is_cut ≡ races.is_cut
  pub object : Appends old new (json_line (races_json pairs))
