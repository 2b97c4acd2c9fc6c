-- Numbers of a fixed width (DWARF 5, section 7.4), and what is left behind them.
use Rattle.std.specs.Prelude.{◌≡◌, ℕ, ◌+◌, ◌*◌, List, [], ◌∷◌, ◌++◌, length}

-- The number that bytes spell, the lowest first.
abbrev pub little : List ℕ → ℕ
little [] = 0
little (b ∷ bytes) = b + 256 * little bytes

-- So many bytes stand in front, and are left off.
pub record IsFixed (width : ℕ) (bytes : List ℕ) (n : ℕ) (rest : List ℕ) : Type 0 where
  pub front : List ℕ
  pub width_is : length front ≡ width
  pub stands : bytes ≡ front ++ rest
  pub spells : n ≡ little front
