-- What is told of the last entry that does something.
use Rattle.std.specs.Prelude.{ℕ, ◌≡◌, ◌<◌, ◌⊎◌, ◌==◌, ◌++◌, if◌then◌else◌, List, Option, Some, None, codes, length}
use Rattle.std.specs.Fmt.{decimal}
use Rattle.std.specs.Io.KnownBytes.{Appends}
use Rattle.selection.specs.declared.choice.NumberSpan.{NumberSpan}
use Rattle.show_rows.specs.declared.listing.Shown.{Shown}
use Rattle.show_rows.specs.declared.listing.Story.{Story}
use Rattle.show_named.specs.declared.data_map.DataMap.{DataMap}
use Rattle.show_named.specs.Rows.{IsEntryText}
use Rattle.show_named.specs.declared.lasts.Act.{Act}
use Rattle.show_named.specs.declared.lasts.SoughtWrite.{SoughtWrite}
use Rattle.show_named.specs.declared.lasts.Act.TheVariants as acts
use Rattle.show_named.specs.Lasts.{HasNone, IsLast}

-- Addresses: one, or the first and the last.
abbrev pub addresses_text : NumberSpan → List ℕ
addresses_text s = if s.first == s.last then decimal s.first else decimal s.first ++ (codes " to " ++ decimal s.last)

-- The words of the last entry before this place that does it.
pub record SaysSome (shown : Shown) (map : DataMap) (story : Story) (before : ℕ) (act : Act) (text : List ℕ) : Type 0 where
  pub at : ℕ
  pub last : IsLast act shown.record.now.log before at
  pub is : IsEntryText shown map story at text

-- Those, or these words where none does.
abbrev pub SaysLast : Shown → DataMap → Story → ℕ → Act → List ℕ → List ℕ → Type 0
SaysLast shown map story before act none text = SaysSome shown map story before act text
    ⊎ (HasNone act shown.record.now.log before × (text ≡ none))

-- The words of the entry at this place of the log, or these where there is none.
abbrev pub SaysPlace : Shown → DataMap → Story → List ℕ → Option ℕ → List ℕ → Type 0
SaysPlace shown map story none (Some at) text = at < length shown.record.now.log → IsEntryText shown map story at text
SaysPlace shown map story none None text = text ≡ none

-- What is said where none writes there.
abbrev pub unwritten_text : NumberSpan → List ℕ
unwritten_text addrs = codes "nobody writes to " ++ (addresses_text addrs
    ++ codes " before that: the module has these bytes, or they are zeros")

-- It is written, and a line feed.
abbrev pub WritesLast : Shown → DataMap → Story → SoughtWrite → Option (List ℕ) → Option (List ℕ) → Type 0
WritesLast shown map story sought old new = (text : List ℕ)
    × SaysLast shown map story sought.before (acts.Write sought.addrs) (unwritten_text sought.addrs) text
    × Appends old new (text ++ codes "\n")
