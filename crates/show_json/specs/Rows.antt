-- What is shown of a record: its entries, and its races.
use Rattle.std.specs.Prelude.{ℕ, ◌≡◌, Bool, true, false, ◌&&◌, List, [], ◌∷◌, ◌++◌, codes}
use Rattle.show_text.specs.Words.{words_text}
use Rattle.show_json.specs.declared.rows.NamedRow.{NamedRow}
use Rattle.show_json.specs.declared.races.RaceEntry.{RaceEntry}
use Rattle.show_json.specs.declared.races.NextWrite.{NextWrite}
use Rattle.show_json.specs.declared.races.RacePair.{RacePair}
use Rattle.show_json.specs.declared.races.RacePairs.{RacePairs}
use Rattle.show_json.specs.Json.{Json, Field, truth, number, text, is, is_given, list_of, object_of, json_text, json_line, string_json}
use Rattle.show_json.specs.Places.{place_json}

-- An entry: its line of the record, its thread, its words, what the data is called that it is about, if that has a name,
-- and where it was made, if that is known.
abbrev pub row_fields : NamedRow → List Field
row_fields named =
    is (codes "line") (number named.row.line)
    ∷ is (codes "thread") (number named.row.words.entry.thread)
    ∷ is (codes "words") (text (words_text named.row.words))
    ∷ is_given (codes "data") string_json named.name
    ∷ is_given (codes "at") place_json named.row.place
    ∷ []

abbrev pub row_json : NamedRow → Json
row_json named = object_of (row_fields named)

-- The entries of a record.
abbrev pub rows_json : List NamedRow → Json
rows_json rows = object_of (is (codes "status") (number 0) ∷ is (codes "rows") (list_of row_json rows) ∷ [])

-- The text of it in pieces: in front of the rows, each row, with a comma before it where it isn't the first one, and
-- behind them.
abbrev pub rows_front : List ℕ
rows_front = codes "{\"status\":0,\"rows\":["

abbrev pub separator : Bool → List ℕ
separator true = []
separator false = codes ","

abbrev pub row_text : Bool → NamedRow → List ℕ
row_text is_first row = separator is_first ++ json_text (row_json row)

abbrev pub rows_back : List ℕ
rows_back = codes "]}\n"

abbrev pub later_rows : List NamedRow → List ℕ
later_rows [] = []
later_rows (row ∷ rows) = row_text false row ++ later_rows rows

abbrev pub rows_text : List NamedRow → List ℕ
rows_text [] = []
rows_text (row ∷ rows) = row_text true row ++ later_rows rows

-- An entry that races: also whether it is atomic, and which bytes it touches; a grow touches none.
abbrev pub entry_fields : RaceEntry → List Field
entry_fields entry =
    is (codes "line") (number entry.row.line)
    ∷ is (codes "thread") (number entry.row.words.entry.thread)
    ∷ is (codes "words") (text (words_text entry.row.words))
    ∷ is (codes "atomic") (truth entry.is_atomic)
    ∷ is (codes "address") (number entry.addr)
    ∷ is (codes "width") (number entry.width)
    ∷ is_given (codes "at") place_json entry.row.place
    ∷ []

abbrev pub entry_json : RaceEntry → Json
entry_json entry = object_of (entry_fields entry)

-- The next atomic write of the first one's thread, of bytes or at another location: its line, and whether it stands before
-- the second one.
abbrev pub write_json : NextWrite → Json
write_json next =
    object_of (is (codes "line") (number next.line) ∷ is (codes "between") (truth next.is_between) ∷ [])

-- Two entries that race: whether both are atomic, whether one looks at the number of pages and the other changes it, the
-- earlier one first, and what would order them.
abbrev pub pair_fields : RacePair → List Field
pair_fields pair =
    is (codes "mixed") (truth (pair.first.is_atomic && pair.second.is_atomic))
    ∷ is (codes "pages") (truth pair.is_of_pages)
    ∷ is (codes "first") (entry_json pair.first)
    ∷ is (codes "second") (entry_json pair.second)
    ∷ is_given (codes "next_write") write_json pair.next_write
    ∷ []

abbrev pub pair_json : RacePair → Json
pair_json pair = object_of (pair_fields pair)

-- The status of races: 1 where there is one, and else 0.
abbrev pub races_status : List RacePair → ℕ
races_status [] = 0
races_status (pair ∷ pairs) = 1

-- The races of a record, and whether there may be more.
abbrev pub races_fields : RacePairs → List Field
races_fields races =
    is (codes "status") (number (races_status races.pairs.now))
    ∷ is (codes "races") (list_of pair_json races.pairs.now)
    ∷ is (codes "more") (truth races.is_cut)
    ∷ []

abbrev pub races_json : RacePairs → Json
races_json races = object_of (races_fields races)

-- The pieces are the text of the whole.
abbrev pub AreWhole : Type 0
AreWhole = (rows : List NamedRow) → rows_front ++ (rows_text rows ++ rows_back) ≡ json_line (rows_json rows)
