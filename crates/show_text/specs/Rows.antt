-- How a row is laid out.
use Rattle.std.specs.Prelude.{ℕ, Bool, if◌then◌else◌, List, [], ◌∷◌, ◌++◌, codes, replicate}
use Rattle.std.specs.Fmt.{decimal}
use Rattle.std.specs.Io.KnownBytes.{Appends}
use Rattle.show_text.specs.declared.sheet.Layout.{Layout}
use Rattle.std.specs.declared.option.Option.{Option}

-- What a row says: the line of the record, the thread, the words of the entry, and the place where it was made.
pub record RowText : Type 0 where
  pub line : ℕ
  pub thread : ℕ
  pub words : List ℕ
  pub place : List ℕ

abbrev pub blanks : ℕ → List ℕ
blanks n = replicate n 32

-- A text in the style of this number, where the terminal has styles.
abbrev pub styled : Bool → ℕ → List ℕ → List ℕ
styled is_colored style text = if is_colored then 27 ∷ codes "[" ++ decimal style ++ codes "m" ++ text ++ 27 ∷ codes "[0m"
    else text

-- Who does what.
abbrev pub said : ℕ → List ℕ → List ℕ
said thread words = codes "t" ++ decimal thread ++ codes " " ++ words

-- A place that isn't known leaves nothing behind the words.
abbrev pub place_text : Bool → ℕ → List ℕ → List ℕ
place_text is_colored gap [] = []
place_text is_colored gap (b ∷ place) = blanks gap ++ styled is_colored 2 (b ∷ place)

abbrev pub row_text : Bool → Layout → RowText → List ℕ
row_text is_colored at row = blanks at.margin ++ (decimal row.line ++ (blanks at.indent
    ++ (styled is_colored at.style (said row.thread row.words) ++ (place_text is_colored at.gap row.place ++ 10 ∷ []))))

-- What is written is a row that says so, however it is laid out.
abbrev pub AddsRow : Bool → RowText → Option (List ℕ) → Option (List ℕ) → Type 0
AddsRow is_colored row old new = (at : Layout) × Appends old new (row_text is_colored at row)
