-- What lies within what.
use Rattle.std.specs.Prelude.{◌≡◌, ◌⊎◌, ℕ, ◌+◌, ◌^◌, ◌<◌, ◌≤◌, List, Contains, Option, IfSome}
use Rattle.dwarf_units.specs.declared.spans.Spanned.{Spanned}
use Rattle.dwarf_data.specs.declared.place.ByteRange.{ByteRange}
use Rattle.dwarf_data.specs.declared.parts.VariablePart.{VariablePart}
use Rattle.dwarf_data.specs.declared.words.NamedBytes.{NamedBytes}
use Rattle.dwarf_data.specs.declared.words.NamedBytes.TheVariants as sought

-- All bytes of the one are bytes of the other.
abbrev pub IsWithin : ByteRange → ByteRange → Type 0
IsWithin outer inner = (outer.start ≤ inner.start) × (inner.start + inner.size ≤ outer.start + outer.size)

-- Some bytes of a place: from an offset on, so many.
pub record IsInner (outer : ByteRange) (offset size : ℕ) (inner : ByteRange) : Type 0 where
  pub start : inner.start ≡ outer.start + offset
  pub size_is : inner.size ≡ size
  pub within : IsWithin outer inner

-- There are not so many bytes from an offset on, or none of them has an address.
abbrev pub HasNoInner : ByteRange → ℕ → ℕ → Type 0
HasNoInner outer offset size = (outer.size < offset + size) ⊎ (2 ^ 64 ≤ outer.start + offset)

-- A part, where there is one, lies within a place.
abbrev pub LiesWithin : ByteRange → Option VariablePart → Type 0
LiesWithin outer part = IfSome part (λ p. IsWithin outer p.place)

-- All bytes of a place are bytes of a span.
abbrev pub IsInSpan : Spanned → ByteRange → Type 0
IsInSpan span place = (span.start ≤ place.start) × (place.start + place.size ≤ span.end)

-- All bytes of a place are bytes of one of some spans.
abbrev pub IsWithinOne : List Spanned → ByteRange → Type 0
IsWithinOne spans place = (span : Spanned) × Contains spans span × IsInSpan span place

-- Where words name one place, it lies within one of some spans.
abbrev pub NamesWithin : List Spanned → NamedBytes → Type 0
NamesWithin spans (sought.One place) = IsWithinOne spans place
NamesWithin spans sought.Nothing = Unit {0}
NamesWithin spans sought.Several = Unit {0}

-- Where words name one place, it is the one that was found.
abbrev pub NamesOneMore : ByteRange → NamedBytes → Type 0
NamesOneMore place (sought.One found) = found ≡ place
NamesOneMore place sought.Nothing = ⊥
NamesOneMore place sought.Several = Unit {0}
