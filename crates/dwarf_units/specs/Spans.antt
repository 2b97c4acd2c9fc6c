-- The places that spans have.
use Rattle.std.specs.Prelude.{ℕ, ◌<◌, ◌≤◌, Bool, ◌&&◌, nat_lt, nat_le, List, length, slice_index_or, All}
use Rattle.dwarf_units.specs.declared.spans.Spanned.{Spanned}

-- From its start on, up to its end.
abbrev pub holds : ℕ → Spanned → Bool
holds place span = nat_le span.start place && nat_lt place span.end

abbrev pub HasPlace : Spanned → Type 0
HasPlace span = span.start < span.end

-- It ends at a place or in front of it.
abbrev pub EndsBy : ℕ → Spanned → Type 0
EndsBy place span = span.end ≤ place

-- Each ends where a later one begins, or in front of it.
abbrev pub AreApart : List Spanned → Type 0
AreApart spans = (i j : ℕ) (d : Spanned) → i < j → j < length spans
    → (slice_index_or spans i d).end ≤ (slice_index_or spans j d).start

-- By where they begin, without a place in common.
pub record AreInOrder (spans : List Spanned) : Type 0 where
  pub apart : AreApart spans
  pub have_places : All HasPlace spans
