-- Lines that may stand in a page.
use Rattle.std.specs.Prelude.{◌≡◌, ℕ, zero, suc, List, [], ◌∷◌, ◌++◌, All}
use Rattle.std.specs.Io.KnownBytes.{Appends}
use Rattle.std.specs.declared.option.Option.{Option}

-- Neither `<` nor a line break.
abbrev pub IsTame : ℕ → Type 0
IsTame byte = ¬ (byte ≡ 60) × ¬ (byte ≡ 10)

-- Such bytes, and a line break behind them.
abbrev pub IsLine : List ℕ → Type 0
IsLine text = (body : List ℕ) × All IsTame body × (text ≡ body ++ (10 ∷ []))

-- What is written is one line.
abbrev pub AddsLine : Option (List ℕ) → Option (List ℕ) → Type 0
AddsLine old new = (text : List ℕ) × IsLine text × Appends old new text

-- What is written is so many lines, one behind the other.
abbrev pub AddsLines : ℕ → Option (List ℕ) → Option (List ℕ) → Type 0
AddsLines zero old new = Appends old new []
AddsLines (suc n) old new = (middle : Option (List ℕ)) × AddsLines n old middle × AddsLine middle new
