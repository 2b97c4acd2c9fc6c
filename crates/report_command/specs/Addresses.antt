-- Which numbers, addresses and moments the texts of `show` spell.
use Rattle.std.specs.Prelude.{ℕ, ◌≡◌, ◌⊎◌, ◌+◌, ◌-◌, ◌^◌, ◌≤◌, List, [], ◌++◌, codes}
use Rattle.std.specs.Str.Parse.{digits_value, without_leading_plus}
use Rattle.selection.specs.declared.choice.NumberSpan.{NumberSpan}
use Rattle.report_command.specs.declared.places.Data.{Data}
use Rattle.report_command.specs.declared.places.Data.TheVariants.{At, Named}
use Rattle.report_command.specs.declared.places.When.{When}
use Rattle.report_command.specs.declared.places.When.TheVariants.{Line, End, Trap}
use Rattle.report_command.specs.Found.{decimal_of}

-- An address: decimal digits, or hexadecimal ones behind `0x`.
abbrev pub IsAddress : List ℕ → ℕ → Type 0
IsAddress text addr = (addr ≡ decimal_of text)
    ⊎ ((digits : List ℕ) × (text ≡ codes "0x" ++ digits) × (addr ≡ digits_value 16 (without_leading_plus digits)))

-- The end of a span: a number, or where none is given the highest.
abbrev pub IsEndOf : List ℕ → ℕ → Type 0
IsEndOf text last = ((text ≡ []) × (last ≡ 2 ^ 64 - 1)) ⊎ IsAddress text last

-- The span of a text `A`, `A-B` or `A-`.
pub record IsSpan (text : List ℕ) (span : NumberSpan) : Type 0 where
  pub ordered : span.first ≤ span.last
  pub spelled : (IsAddress text span.first × (span.last ≡ span.first))
      ⊎ ((first last : List ℕ) × (text ≡ first ++ codes "-" ++ last) × IsAddress first span.first × IsEndOf last span.last)

-- The address and the number of a text `A:N`.
abbrev pub IsBytes : List ℕ → ℕ → ℕ → Type 0
IsBytes text addr count =
    (first : List ℕ) × (last : List ℕ) × (text ≡ first ++ codes ":" ++ last) × IsAddress first addr
    × (count ≡ decimal_of last)

-- The addresses of so many bytes, one at least.
abbrev pub IsSpanOf : ℕ → ℕ → NumberSpan → Type 0
IsSpanOf addr count span = (1 ≤ count) × (span.first ≡ addr) × (span.last + 1 ≡ addr + count)

-- The addresses of a text `A:N`, or of `A` alone, which is one byte.
abbrev pub IsStretch : List ℕ → NumberSpan → Type 0
IsStretch text span = (IsAddress text span.first × (span.last ≡ span.first))
    ⊎ ((addr count : ℕ) × IsBytes text addr count × IsSpanOf addr count span)

-- Bytes that are named are named by all of the text.
abbrev pub IsData : (List ℕ → NumberSpan → Type 0) → List ℕ → Data → Type 0
IsData Spells text (At span) = Spells text span
IsData Spells text (Named words) = words.now ≡ text

-- A thread's number, alone or behind a `t`.
abbrev pub IsThread : List ℕ → ℕ → Type 0
IsThread text n = (n ≡ decimal_of text) ⊎ ((digits : List ℕ) × (text ≡ codes "t" ++ digits) × (n ≡ decimal_of digits))

-- A moment: a line of the record, or a word.
abbrev pub IsMoment : List ℕ → When → Type 0
IsMoment text (Line line) = line ≡ decimal_of text
IsMoment text End = text ≡ codes "end"
IsMoment text Trap = text ≡ codes "trap"
