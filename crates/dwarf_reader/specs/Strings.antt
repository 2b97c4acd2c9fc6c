-- Strings (DWARF 5, section 7.5.5): bytes up to the first zero, which is left off.
use Rattle.std.specs.Prelude.{◌≡◌, ℕ, ◌<◌, ◌≤◌, Bool, nat_eq, List, length, take, drop}
use Rattle.std.specs.List.{position_or_len, before_first, after_first}

abbrev pub is_zero : ℕ → Bool
is_zero b = nat_eq b 0

abbrev pub HasZero : List ℕ → Type 0
HasZero bytes = position_or_len is_zero bytes < length bytes

abbrev pub HasNoZero : List ℕ → Type 0
HasNoZero bytes = length bytes ≤ position_or_len is_zero bytes

-- A string, and what stands behind its zero.
pub record IsString (bytes string rest : List ℕ) : Type 0 where
  pub ends : HasZero bytes
  pub front : string ≡ before_first is_zero bytes
  pub behind : rest ≡ after_first is_zero bytes

-- The bytes in which a string is looked for: so many behind an offset.
abbrev pub near : List ℕ → ℕ → ℕ → List ℕ
near section offset most = take most (drop offset section)
