-- Texts of anybody, for a terminal.
use Rattle.std.specs.Prelude.{ℕ, List, Bool, map, chars, encode_utf8_all, if◌then◌else◌, ◌==◌, ◌&&◌, ◌||◌, nat_le}
use Rattle.std.specs.Char.{is_control}

-- A character that a terminal obeys in place of showing it: a control character, or one of Unicode's that end a line or a
-- paragraph, or turn the direction of what stands behind them (U+2028 to U+202E, and U+2066 to U+2069).
abbrev pub is_unshown : ℕ → Bool
is_unshown c = is_control c || (nat_le 0x2028 c && nat_le c 0x202e || nat_le 0x2066 c && nat_le c 0x2069)

-- Such a character is shown as `?`, and a tab as a space.
abbrev pub plain_char : ℕ → ℕ
plain_char c = if c == 9 then 32 else if is_unshown c then 63 else c

abbrev pub plain_text : List ℕ → List ℕ
plain_text text = encode_utf8_all (map plain_char (chars text))
