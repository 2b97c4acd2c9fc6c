-- The text of entries, row by row.
use Rattle.std.proofs.Common.{ℕ, ◌≡◌, ◌+◌, ◌<◌, ◌≤◌, List, [], ◌∷◌, ◌++◌, Bool, true, false, length, take, get_or}
use Rattle.std.proofs.Common.{codes, refl, sym, ap, ◌∙◌, subst, arith, append_assoc, append-nil, Option}
use Rattle.std.proofs.lemmas.Fmt.{decimal_digit}
use Rattle.std.specs.Io.KnownBytes.{Appends}
use Rattle.replay_forms.proofs.Written.{appends_then}
use Rattle.std.proofs.lemmas.List.{take_more, take_all}
use Rattle.serde_json.specs.Written.{items_text}
use Rattle.serde_json.proofs.OnLiterals.{serde_json_on_literals}
use Rattle.show_json.specs.declared.rows.NamedRow.{NamedRow}
use Rattle.show_json.specs.Json.{items_of, items, json_text, json_line}
use Rattle.show_json.specs.Rows.{row_json, rows_json, rows_front, row_text, rows_back, later_rows, rows_text, AreWhole}

-- Whether there is none.
abbrev pub is_nil : List NamedRow → Bool
is_nil [] = true
is_nil (row ∷ rows) = false

later_push : (rows : List NamedRow) (row : NamedRow) → later_rows (rows ++ row ∷ []) ≡ later_rows rows ++ row_text false row
later_push [] row = append-nil (row_text false row)
later_push (r ∷ rows) row = ap (λ t. row_text false r ++ t) (later_push rows row) ∙ sym (append_assoc (row_text false r) (later_rows rows) (row_text false row))

rows_push : (rows : List NamedRow) (row : NamedRow) → rows_text (rows ++ row ∷ []) ≡ rows_text rows ++ row_text (is_nil rows) row
rows_push [] row = append-nil (row_text true row)
rows_push (r ∷ rows) row = ap (λ t. row_text true r ++ t) (later_push rows row) ∙ sym (append_assoc (row_text true r) (later_rows rows) (row_text false row))

nil_push : (rows : List NamedRow) (row : NamedRow) → is_nil (rows ++ row ∷ []) ≡ false
nil_push [] row = refl
nil_push (r ∷ rows) row = refl

pub nil_more : (rows : List NamedRow) (k : ℕ) (d : NamedRow) → k < length rows → false ≡ is_nil (take (k + 1) rows)
nil_more rows k d less = sym (ap is_nil (take_more rows k d less) ∙ nil_push (take k rows) (get_or rows k d))

pub rows_more : (rows : List NamedRow) (k : ℕ) (d : NamedRow) → k < length rows
    → rows_text (take (k + 1) rows) ≡ rows_text (take k rows) ++ row_text (is_nil (take k rows)) (get_or rows k d)
rows_more rows k d less = ap rows_text (take_more rows k d less) ∙ rows_push (take k rows) (get_or rows k d)

-- The rows are the items of a list.
later_items : (rows : List NamedRow) → later_rows rows ++ codes "]" ≡ items_text true (items_of (items row_json rows))
later_items [] = refl
later_items (row ∷ rows) =
    append_assoc (codes "," ++ json_text (row_json row)) (later_rows rows) (codes "]")
    ∙ append_assoc (codes ",") (json_text (row_json row)) (later_rows rows ++ codes "]")
    ∙ ap (λ t. codes "," ++ (json_text (row_json row) ++ t)) (later_items rows)

all_items : (rows : List NamedRow) → rows_text rows ++ codes "]" ≡ items_text false (items_of (items row_json rows))
all_items [] = refl
all_items (row ∷ rows) =
    append_assoc (json_text (row_json row)) (later_rows rows) (codes "]")
    ∙ ap (λ t. json_text (row_json row) ++ t) (later_items rows)

behind : (rows : List NamedRow) → rows_text rows ++ rows_back ≡ (items_text false (items_of (items row_json rows)) ++ codes "}") ++ codes "\n"
behind rows =
    sym (append_assoc (rows_text rows) (codes "]") (codes "}\n"))
    ∙ ap (λ t. t ++ codes "}\n") (all_items rows)
    ∙ sym (append_assoc (items_text false (items_of (items row_json rows))) (codes "}") (codes "\n"))

pub rows_are_whole : AreWhole
unfolding serde_json_on_literals
rows_are_whole rows =
    let inner = items_text false (items_of (items row_json rows)) ++ codes "}" in
    ap (λ (t : List ℕ). rows_front ++ t) (behind rows)
    ∙ ap (λ (t : List ℕ). codes "{\"status\":" ++ ((t ++ (codes ",\"rows\":[" ++ inner)) ++ codes "\n")) (sym (decimal_digit 0 (omega arith)))

-- One more row is written; and all are.
pub rows_go_on : (rows : List NamedRow) (k : ℕ) (d : NamedRow) (is_first : Bool) (a b c : Option (List ℕ)) → k < length rows
    → is_first ≡ is_nil (take k rows) → Appends a b (rows_text (take k rows)) → Appends b c (row_text is_first (get_or rows k d))
    → (false ≡ is_nil (take (k + 1) rows)) × Appends a c (rows_text (take (k + 1) rows))
rows_go_on rows k d is_first a b c less first before one =
    let x = get_or rows k d in
    let here = subst (λ (is : Bool). Appends b c (row_text is x)) first one in (
      nil_more rows k d less,
      subst (λ (t : List ℕ). Appends a c t) (sym (rows_more rows k d less)) (appends_then a b c _ _ before here),
    )

pub rows_done : (rows : List NamedRow) (k : ℕ) (a b c d : Option (List ℕ)) → length rows ≤ k → Appends a b rows_front
    → Appends b c (rows_text (take k rows)) → Appends c d rows_back → Appends a d (json_line (rows_json rows))
rows_done rows k a b c d all front middle back =
    let these = subst (λ (rs : List NamedRow). Appends b c (rows_text rs)) (take_all k rows all) middle in
    subst (λ (t : List ℕ). Appends a d t) (rows_are_whole rows)
    (appends_then a b d _ _ front (appends_then b c d _ _ these back))
