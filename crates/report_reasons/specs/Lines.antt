-- The lines of a record, as they are told.
use Rattle.std.specs.Prelude.{◌≡◌, ◌⊎◌, ℕ, ◌+◌, ◌<◌, ◌≤◌, ◌&&◌, false, if◌then◌else◌, nat_lt, List, [], ◌∷◌, ◌++◌, length, get_or, take, map}
use Rattle.std.specs.Prelude.{codes, encode_utf8_all, Option, None, Some}
use Rattle.std.specs.List.{list_any}
use Rattle.std.specs.Borrow.{Bor}
use Rattle.std.specs.Fmt.{decimal}
use Rattle.report_reasons.specs.Added.{IsAddedTo}
use Rattle.replay_text.specs.Breaks.{is_feed, line_feeds}

-- Bytes without a line feed stand before it, and there a line feed, or nothing.
abbrev pub IsLineEnd : List ℕ → ℕ → Type 0
IsLineEnd text n = (n ≤ length text) × (list_any is_feed (take n text) ≡ false) × (n < length text → get_or text n 0 ≡ 10)

-- The line of a text with this number, from 1 on, without its line feed.
pub record IsLine (text : List ℕ) (n : ℕ) (line : List ℕ) : Type 0 where
  pub before : List ℕ
  pub behind : List ℕ
  pub is : text ≡ before ++ (line ++ behind)
  pub begins : (before ≡ []) ⊎ ((other : List ℕ) × (before ≡ other ++ 10 ∷ []))
  pub number : line_feeds before + 1 ≡ n
  pub free : list_any is_feed line ≡ false
  pub ends : (behind ≡ []) ⊎ ((other : List ℕ) × (behind ≡ 10 ∷ other))

-- It is that line, or the text has fewer.
abbrev pub FindsLine : List ℕ → ℕ → Option (Bor (List ℕ)) → Type 0
FindsLine text n (Some line) = IsLine text n line.now
FindsLine text n None = line_feeds text + 1 < n

-- Of each byte that is no printable character of ASCII, `?` is shown.
abbrev pub shown_char : ℕ → ℕ
shown_char b = if nat_lt 31 b && nat_lt b 127 then b else 63

abbrev pub shown_bytes : List ℕ → List ℕ
shown_bytes bytes = encode_utf8_all (map shown_char bytes)

-- At most 200 bytes are shown, and a line that begins with a thread's number is shown with `t` before it.
abbrev pub front_of : List ℕ → List ℕ
front_of [] = []
front_of (b ∷ line) = if nat_lt 47 b && nat_lt b 58 then codes "t" else []

abbrev pub line_words : ℕ → List ℕ → List ℕ
line_words n line =
    codes "line " ++ (decimal n ++ (codes ": the record has " ++ (front_of line ++ (shown_bytes (take 200 line) ++ codes "\n"))))

-- What was added are the words of this line of the text, or nothing where it has fewer.
abbrev pub SaysLine : List ℕ → ℕ → List ℕ → List ℕ → Type 0
SaysLine text n old new =
    ((line : List ℕ) × IsLine text n line × (new ≡ old ++ line_words n line))
    ⊎ ((line_feeds text + 1 < n) × (new ≡ old))

-- What was added begins so.
abbrev pub BeginsWithLine : List ℕ → ℕ → List ℕ → List ℕ → Type 0
BeginsWithLine text n old new = 1 ≤ n → (said : List ℕ) × SaysLine text n old said × IsAddedTo said new
