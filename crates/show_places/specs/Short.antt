-- Names as they are shown.
use Rattle.std.specs.Prelude.{ℕ, nat_le, if◌then◌else◌, List, ◌++◌, codes, length, take}
use Rattle.std.specs.Fmt.{decimal}
use Rattle.std.specs.Fmt.Cut.{floor_char_boundary}
use Rattle.show_places.specs.declared.short.TheConstants.{MOST_NAME, SHOWN_FRONT}

-- As many of a text's first characters as there are in so many bytes.
abbrev pub front_of : List ℕ → ℕ → List ℕ
front_of text most = if nat_le (length text) most then text else take (floor_char_boundary text most) text

-- A long name is shown by its front, and how many bytes it has.
abbrev pub short_name : List ℕ → List ℕ
short_name name = if nat_le (length name) MOST_NAME then name
    else front_of name SHOWN_FRONT ++ (codes ".. (" ++ (decimal (length name) ++ codes " bytes)"))
