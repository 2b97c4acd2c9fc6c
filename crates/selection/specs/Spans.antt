-- Spans of numbers that are searched.
use Rattle.std.specs.Prelude.{ℕ, ◌<◌, ◌≤◌, List, length, slice_index_or, All}
use Rattle.selection.specs.declared.choice.NumberSpan.{NumberSpan}

abbrev pub HasNumber : NumberSpan → Type 0
HasNumber span = span.first ≤ span.last

-- Each ends in front of where a later one begins.
abbrev pub AreApart : List NumberSpan → Type 0
AreApart spans = (i j : ℕ) (d : NumberSpan) → i < j → j < length spans
    → (slice_index_or spans i d).last < (slice_index_or spans j d).first

-- By where they begin, without a number in common.
pub record AreInOrder (spans : List NumberSpan) : Type 0 where
  pub apart : AreApart spans
  pub have_numbers : All HasNumber spans
