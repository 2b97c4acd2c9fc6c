-- What a row says of an entry.
use Rattle.std.proofs.Common.{◌≡◌, ◌<◌, ◌++◌, ℕ, List, Some, codes, length, get_or, refl, sym, subst}
use Rattle.std.specs.Fmt.{decimal}
use Rattle.std.specs.List.{slice_get}
use Rattle.std.proofs.lemmas.Option.{slice_get-get_or}
use Rattle.types.specs.declared.event.Entry.{Entry}
use Rattle.show_text.specs.declared.words.Words.{Words}
use Rattle.show_text.specs.Words.{words_text}
use Rattle.show_text.specs.Rows.{RowText}
use Rattle.show_rows.specs.declared.listing.Shown.{Shown}
use Rattle.show_rows.specs.declared.listing.Story.{Story}
use Rattle.show_rows.specs.Entries.{behind, IsEntryText}
use Rattle.show_rows.specs.Listing.{line_at, AreWordsOf, IsPlaceTextOf, Says}

-- It says so of the entry that a log has there, which is the record's.
pub says_of : (shown : Shown) (story : Story) (at : ℕ) (log : List Entry) (d : Entry) (said : Words) (row : RowText)
    → log ≡ shown.record.now.log → at < length shown.record.now.log → AreWordsOf shown story at (get_or log at d) said
    → row.line ≡ line_at shown at → row.thread ≡ (get_or log at d).thread → row.words ≡ words_text said
    → IsPlaceTextOf shown story at row.place → Says shown story at row
says_of shown story at log d said row same within of line thread words place = record {
  made = get_or log at d;
  stands = subst (λ (l : List Entry). slice_get l at ≡ Some (get_or log at d)) same
      (slice_get-get_or log at d (subst (λ (l : List Entry). at < length l) (sym same) within));
  line = line;
  thread = thread;
  said = said;
  words_of = of;
  words = words;
  place = place;
}

-- So does the text of an entry.
pub entry_says : (shown : Shown) (story : Story) (at : ℕ) (log : List Entry) (d : Entry) (said : Words) (words place text : List ℕ) (line : ℕ)
    → log ≡ shown.record.now.log → at < length shown.record.now.log → AreWordsOf shown story at (get_or log at d) said
    → line ≡ line_at shown at → words ≡ words_text said → IsPlaceTextOf shown story at place
    → text ≡ codes "t" ++ (decimal (get_or log at d).thread ++ (codes " " ++ (words ++ (codes ", entry " ++ (decimal line ++ behind place)))))
    → IsEntryText shown story at text
entry_says shown story at log d said words place text line same within of line_is words_are place_is is = (
  record { line = line; thread = (get_or log at d).thread; words = words; place = place },
  says_of shown story at log d said (record { line = line; thread = (get_or log at d).thread; words = words; place = place })
      same within of line_is refl words_are place_is,
  is,
)
