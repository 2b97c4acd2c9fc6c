-- Entries in words, one by one.
use Rattle.std.specs.Prelude.{ℕ, ◌≡◌, List, [], ◌∷◌, ◌++◌, codes}
use Rattle.std.specs.Fmt.{decimal}
use Rattle.show_text.specs.Rows.{RowText}
use Rattle.show_rows.specs.declared.listing.Shown.{Shown}
use Rattle.show_rows.specs.declared.listing.Story.{Story}
use Rattle.show_rows.specs.Listing.{Says}

-- A place that isn't known leaves nothing.
abbrev pub behind : List ℕ → List ℕ
behind [] = []
behind (b ∷ place) = codes ", " ++ (b ∷ place)

-- An entry: its thread, its words, its line of the record, and where it was made.
abbrev pub entry_text : RowText → List ℕ
entry_text row = codes "t" ++ (decimal row.thread ++ (codes " " ++ (row.words ++ (codes ", entry "
    ++ (decimal row.line ++ behind row.place)))))

abbrev pub IsEntryText : Shown → Story → ℕ → List ℕ → Type 0
IsEntryText shown story at text = (row : RowText) × Says shown story at row × (text ≡ entry_text row)
