-- What a row says of an entry, with a name.
use Rattle.std.proofs.Common.{◌≡◌, ◌<◌, ◌++◌, ℕ, Bool, List, [], Option, Some, length, get_or, refl, sym, ap, subst, ◌∙◌}
use Rattle.std.specs.List.{slice_get}
use Rattle.std.specs.Prelude.{option_map, unwrap_or}
use Rattle.std.proofs.lemmas.Option.{slice_get-get_or}
use Rattle.std.proofs.lemmas.List.{append-nil}
use Rattle.types.specs.declared.event.Entry.{Entry}
use Rattle.show_text.specs.declared.words.Words.{Words}
use Rattle.show_text.specs.Words.{words_text}
use Rattle.show_text.specs.Rows.{RowText, AddsRow}
use Rattle.show_rows.specs.declared.listing.Shown.{Shown}
use Rattle.show_rows.specs.declared.listing.Story.{Story}
use Rattle.show_rows.specs.Listing.{line_at, AreWordsOf, IsPlaceTextOf}
use Rattle.show_rows.proofs.Saying.{says_of}
use Rattle.show_named.specs.declared.data_map.DataMap.{DataMap}
use Rattle.show_named.specs.Names.{IsDataText}
use Rattle.show_named.specs.Folds.{AddsNoted, AreNamedWords}
use Rattle.show_named.specs.Rows.{AddsEntry, SaysNamed}

-- It says so of the entry that a log has there, which is the record's.
pub says_named : (shown : Shown) (map : DataMap) (story : Story) (at : ℕ) (log : List Entry) (d : Entry) (said : Words) (line : ℕ)
    (words name place : List ℕ)
    → log ≡ shown.record.now.log → at < length shown.record.now.log → AreWordsOf shown story at (get_or log at d) said
    → line ≡ line_at shown at → words ≡ words_text said ++ name
    → IsPlaceTextOf shown story at place → IsDataText map (get_or log at d).event name
    → SaysNamed shown map story at (record { line = line; thread = (get_or log at d).thread; words = words; place = place })
says_named shown map story at log d said line words name place same within of line_is words_are place_is named =
    let row : RowText =
    record { line = line; thread = (get_or log at d).thread; words = words_text said; place = place } in
    let with : List ℕ → RowText =
    λ w. record { line = line; thread = (get_or log at d).thread; words = w; place = place } in
    record {
      row = row;
      says = says_of shown story at log d said row same within of line_is refl refl place_is;
      name = name;
      name_is = record {
        made = get_or log at d;
        stands = subst (λ (l : List Entry). slice_get l at ≡ Some (get_or log at d)) same
            (slice_get-get_or log at d (subst (λ (l : List Entry). at < length l) (sym same) within));
        named = named;
      };
      is = ap with words_are;
    }

-- The words of the entry that a log has there, which is the record's.
pub named_of : (shown : Shown) (map : DataMap) (story : Story) (at : ℕ) (log : List Entry) (d : Entry) (said : Words)
    (words name : List ℕ)
    → log ≡ shown.record.now.log → at < length shown.record.now.log → AreWordsOf shown story at (get_or log at d) said
    → IsDataText map (get_or log at d).event name → words ≡ words_text said ++ name → AreNamedWords shown map story at words
named_of shown map story at log d said words name same within of named is =
    let stands = subst (λ (l : List Entry). slice_get l at ≡ Some (get_or log at d)) same
    (slice_get-get_or log at d (subst (λ (l : List Entry). at < length l) (sym same) within)) in
    record {
      made = get_or log at d;
      stands = stands;
      said = said;
      words_of = of;
      name = name;
      name_is = record { made = get_or log at d; stands = stands; named = named };
      is = is;
    }

-- A row with these words says so of the entry.
pub says_words : (shown : Shown) (map : DataMap) (story : Story) (at : ℕ) (log : List Entry) (d : Entry) (line : ℕ)
    (words place : List ℕ)
    → log ≡ shown.record.now.log → at < length shown.record.now.log → line ≡ line_at shown at
    → AreNamedWords shown map story at words → IsPlaceTextOf shown story at place
    → SaysNamed shown map story at (record { line = line; thread = (get_or log at d).thread; words = words; place = place })
says_words shown map story at log d line words place same within line_is w place_is =
    let stands : slice_get shown.record.now.log at ≡ Some (get_or log at d)
    = subst (λ (l : List Entry). slice_get l at ≡ Some (get_or log at d)) same
    (slice_get-get_or log at d (subst (λ (l : List Entry). at < length l) (sym same) within)) in
    let thread : (get_or log at d).thread ≡ w.made.thread
    = ap (λ (o : Option Entry). unwrap_or (option_map (λ e. e.thread) o) 0) (sym stands ∙ w.stands) in
    let with : List ℕ → RowText =
    λ t. record { line = line; thread = (get_or log at d).thread; words = t; place = place } in
    record {
      row = with (words_text w.said);
      says = record {
        made = w.made;
        stands = w.stands;
        line = line_is;
        thread = thread;
        said = w.said;
        words_of = w.words_of;
        words = refl;
        place = place_is;
      };
      name = w.name;
      name_is = w.name_is;
      is = ap with w.is;
    }

-- A row with nothing behind its words is that of the entry.
pub plain_entry : (shown : Shown) (map : DataMap) (story : Story) (at : ℕ) (a b : Option (List ℕ))
    → AddsNoted shown map story [] at a b → AddsEntry shown map story at a b
plain_entry shown map story at a b (colored, row, says, wrote) =
    (colored, row, says, subst (λ (r : RowText). AddsRow colored r a b) (ap (λ (t : List ℕ). record row { words = t }) (append-nil row.words)) wrote)

-- What is written is a row that says so of an entry, with a note behind.
pub noted : (shown : Shown) (map : DataMap) (story : Story) (at : ℕ) (note : List ℕ) (colored : Bool) (line thread : ℕ)
    (words text place : List ℕ) (a b : Option (List ℕ)) → text ≡ words ++ note
    → SaysNamed shown map story at (record { line = line; thread = thread; words = words; place = place })
    → AddsRow colored (record { line = line; thread = thread; words = text; place = place }) a b
    → AddsNoted shown map story note at a b
noted shown map story at note colored line thread words text place a b is says wrote =
    let row : List ℕ → RowText = λ t. record { line = line; thread = thread; words = t; place = place } in
    (colored, row words, says, subst (λ (t : List ℕ). AddsRow colored (row t) a b) is wrote)
