-- Texts of lines and words.
use Rattle.std.specs.Prelude.{ℕ, ◌+◌, ◌/◌, ◌%◌, List, [], ◌∷◌, ◌++◌, nat_lt, if◌then◌else◌, Option, Result, OnOk}
use Rattle.std.specs.Io.KnownBytes.{Appends}

-- What a function answers that writes a text: where it answers Ok, the writer took exactly that text.
abbrev pub Wrote : {W X E : Type 0} → (W → Option (List ℕ)) → W → W → Result X E → List ℕ → Type 0
Wrote contents old new result text = OnOk result (Appends (contents old) (contents new) text)

-- The words, a space before each, and a line feed behind the last, in front of other bytes.
abbrev pub words_line : List (List ℕ) → List ℕ → List ℕ
words_line [] rest = 10 ∷ rest
words_line (word ∷ words) rest = 32 ∷ (word ++ words_line words rest)

-- A line of words with one space between each two, in front of other bytes.
abbrev pub line : List (List ℕ) → List ℕ → List ℕ
line [] rest = 10 ∷ rest
line (word ∷ words) rest = word ++ words_line words rest

-- The text of lines of words.
abbrev pub lines_text : List (List (List ℕ)) → List ℕ
lines_text [] = []
lines_text (words ∷ lines) = line words (lines_text lines)

-- The words, a space behind each, in front of other bytes.
abbrev pub spaced : List (List ℕ) → List ℕ → List ℕ
spaced [] rest = rest
spaced (word ∷ words) rest = word ++ 32 ∷ spaced words rest

-- A digit of base 16, in lower case.
abbrev pub hex_digit : ℕ → ℕ
hex_digit n = if nat_lt n 10 then 48 + n else 87 + n

-- Each byte by two digits of base 16.
abbrev pub hex_text : List ℕ → List ℕ
hex_text [] = []
hex_text (b ∷ bytes) = hex_digit (b / 16) ∷ hex_digit (b % 16) ∷ hex_text bytes

-- The texts of items, each by its place, in front of other bytes.
abbrev pub texts : {A : Type 0} → (ℕ → A → List ℕ → List ℕ) → ℕ → List A → List ℕ → List ℕ
texts text i [] rest = rest
texts text i (x ∷ xs) rest = text i x (texts text (i + 1) xs rest)

-- The texts of items, each by its place.
abbrev pub pieces : {A : Type 0} → (ℕ → A → List ℕ) → ℕ → List A → List ℕ
pieces piece i [] = []
pieces piece i (x ∷ xs) = piece i x ++ pieces piece (i + 1) xs
