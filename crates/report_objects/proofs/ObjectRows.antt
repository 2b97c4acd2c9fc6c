-- The rows of an object, one behind the other.
use Rattle.std.proofs.Common.{◌≡◌, ◌∙◌, ℕ, ◌+◌, ◌<◌, ◌≤◌, List, [], ◌∷◌, ◌++◌, Bool, false, length, take, get_or, true}
use Rattle.std.proofs.Common.{Option, None, Some, OnSome, append-nil, refl, sym, ap, subst, arith}
use Rattle.std.specs.List.{AllZip}
use Rattle.std.specs.Io.KnownBytes.{Appends}
use Rattle.std.proofs.Math.Seq.{take-append_seam, get_or-append_seam}
use Rattle.std.proofs.lemmas.List.{take_all}
use Rattle.types.specs.declared.event.Entry.{Entry}
use Rattle.show_json.specs.declared.rows.NamedRow.{NamedRow}
use Rattle.show_json.specs.Json.{json_line}
use Rattle.show_json.specs.Rows.{row_text, rows_back, rows_front, rows_json, rows_text}
use Rattle.show_json.proofs.RowTexts.{is_nil, rows_done, rows_go_on}
use Rattle.show_rows.specs.declared.listing.Shown.{Shown}
use Rattle.show_rows.specs.declared.listing.Story.{Story}
use Rattle.show_named.specs.Names.{HasData}
use Rattle.show_named.specs.declared.data_map.DataMap.{DataMap}
use Rattle.report_objects.specs.RaceObjects.{AddsRows, IsNamedRowAt, IsRowOf}
use Rattle.report_objects.proofs.RacePairs.{stands}
use Rattle.show_rows.proofs.Zipped.{zipped_more}

length_more : {A : Type 0} (xs : List A) (x : A) → length (xs ++ x ∷ []) ≡ length xs + 1
length_more [] x = refl
length_more (y ∷ xs) x = omega (arith, length_more xs x)

-- One more row is written behind these.
row_behind : (rows : List NamedRow) (row : NamedRow) (is_first : Bool) (a b c : Option (List ℕ)) → is_first ≡ is_nil rows
    → Appends a b (rows_text rows) → Appends b c (row_text is_first row)
    → (false ≡ is_nil (rows ++ row ∷ [])) × Appends a c (rows_text (rows ++ row ∷ []))
row_behind rows row is_first a b c first before one =
    let all : List NamedRow = rows ++ row ∷ [] in
    let here : take (length rows) all ≡ rows = take-append_seam rows (row ∷ []) in
    let it : get_or all (length rows) row ≡ row = get_or-append_seam rows row [] row in
    let long : length all ≡ length rows + 1 = length_more rows row in
    subst (λ (rs : List NamedRow). (false ≡ is_nil rs) × Appends a c (rows_text rs)) (take_all (length rows + 1) all (omega (arith, long)))
    (rows_go_on all (length rows) row is_first a b c (omega (arith, long))
    (first ∙ sym (ap is_nil here))
    (subst (λ (rs : List NamedRow). Appends a b (rows_text rs)) (sym here) before)
    (subst (λ (r : NamedRow). Appends b c (row_text is_first r)) (sym it) one))

pub row_at : (shown : Shown) (map : DataMap) (story : Story) (at : ℕ) (log : List Entry) (d : Entry) (row : NamedRow)
    → log ≡ shown.record.now.log → at < length shown.record.now.log → IsRowOf shown story at (get_or log at d) row.row
    → OnSome row.name (HasData map (get_or log at d).event) → IsNamedRowAt shown map story at row
row_at shown map story at log d row same within is named = record {
  made = get_or log at d;
  stands = stands log shown.record.now.log at d same within;
  row_of = is;
  named_as = named;
}

-- These rows are written, and the next one is the first where there is none yet.
abbrev pub HasRows : Shown → DataMap → Story → List ℕ → Bool → Option (List ℕ) → Option (List ℕ) → Type 0
HasRows shown map story places is_first old new = (rows : List NamedRow) × (is_first ≡ is_nil rows) × AllZip (IsNamedRowAt shown map story) places rows
    × Appends old new (rows_text rows)

pub no_rows : (shown : Shown) (map : DataMap) (story : Story) (a : Option (List ℕ)) → HasRows shown map story [] true a a
no_rows shown map story None = ([], refl, tt, tt)
no_rows shown map story (Some xs) = ([], refl, tt, sym (append-nil xs))

pub row_more : (shown : Shown) (map : DataMap) (story : Story) (places : List ℕ) (k z : ℕ) (is_first : Bool) (a b c : Option (List ℕ)) → k < length places
    → HasRows shown map story (take k places) is_first a b
    → (row : NamedRow) → IsNamedRowAt shown map story (get_or places k z) row → Appends b c (row_text is_first row)
    → HasRows shown map story (take (k + 1) places) false a c
row_more shown map story places k z is_first a b c within (rows, first, each, before) row is one =
    let more = row_behind rows row is_first a b c first before one in
    (rows ++ row ∷ [], more.0, zipped_more (IsNamedRowAt shown map story) places rows k z row within each is, more.1)

pub rows_all : (shown : Shown) (map : DataMap) (story : Story) (places : List ℕ) (k : ℕ) (is_first : Bool) (a b : Option (List ℕ)) → length places ≤ k
    → HasRows shown map story (take k places) is_first a b → AddsRows shown map story places a b
rows_all shown map story places k is_first a b all (rows, first, each, before) =
    (rows, subst (λ (ps : List ℕ). AllZip (IsNamedRowAt shown map story) ps rows) (take_all k places all) each, before)

-- Between its front and its back they are one object.
pub object_of_rows : (rows : List NamedRow) (a b c d : Option (List ℕ)) → Appends a b rows_front → Appends b c (rows_text rows)
    → Appends c d rows_back → Appends a d (json_line (rows_json rows))
object_of_rows rows a b c d front middle back =
    let all : take (length rows) rows ≡ rows = take_all (length rows) rows (omega arith) in
    rows_done rows (length rows) a b c d (omega arith) front
    (subst (λ (rs : List NamedRow). Appends b c (rows_text rs)) (sym all) middle) back
