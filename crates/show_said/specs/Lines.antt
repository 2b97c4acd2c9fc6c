-- Letters, and the lines that they make.
use Rattle.std.specs.Prelude.{ℕ, List, [], ◌∷◌, ◌++◌, Bool, not, if◌then◌else◌, map, nat_eq, nat_lt, nat_le}
use Rattle.std.specs.Prelude.{◌&&◌}
use Rattle.std.specs.Int.{w64, to_le_bytes}
use Rattle.std.specs.List.{filter}
use Rattle.std.specs.Str.{is_utf8}
use Rattle.show_text.specs.Plain.{plain_text}

abbrev pub is_letter : ℕ → Bool
is_letter b = not (nat_eq b 0)

-- The bytes of a number that aren't 0, the lowest first.
abbrev pub word_letters : ℕ → List ℕ
word_letters value = filter is_letter (to_le_bytes w64 value)

-- What a stored number says: these letters; the number 0 says a 0.
abbrev pub letters_of : ℕ → List ℕ
letters_of value = if nat_eq value 0 then 0 ∷ [] else word_letters value

-- A line that is told where it has a letter.
abbrev pub some_line : List ℕ → List (List ℕ)
some_line [] = []
some_line (b ∷ line) = (b ∷ line) ∷ []

-- Behind a line so far, the lines that letters end: each line feed ends one, which it isn't part of, and a 0 ends one
-- that has a letter.
abbrev pub lines_in : List ℕ → List ℕ → List (List ℕ)
lines_in line [] = []
lines_in line (b ∷ letters) =
    if nat_eq b 10 then line ∷ lines_in [] letters
    else (if nat_eq b 0 then some_line line ++ lines_in [] letters else lines_in (line ++ b ∷ []) letters)

-- The letters that no line has yet.
abbrev pub left_of : List ℕ → List ℕ → List ℕ
left_of line [] = line
left_of line (b ∷ letters) =
    if nat_eq b 10 then left_of [] letters
    else (if nat_eq b 0 then left_of [] letters else left_of (line ++ b ∷ []) letters)

-- A byte of a text that isn't UTF-8: a `?` where it is no letter of ASCII, and a tab as a space.
abbrev pub plain_byte : ℕ → ℕ
plain_byte b = if nat_eq b 9 then 32 else (if nat_le 32 b && nat_lt b 127 then b else 63)

-- A line as it is printed.
abbrev pub line_text : List ℕ → List ℕ
line_text line = if is_utf8 line then plain_text line else map plain_byte line
