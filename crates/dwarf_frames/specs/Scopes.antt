-- Scopes, one within the other.
use Rattle.std.specs.Prelude.{◌≡◌, ℕ, List, [], ◌∷◌, Option, Some, None}
use Rattle.dwarf_units.specs.declared.spans.Spanned.{Spanned}

abbrev pub BeginsWith : ℕ → List ℕ → Type 0
BeginsWith first scopes = (rest : List ℕ) × (scopes ≡ first ∷ rest)

-- The first is the function's entry; without a function there are none.
abbrev pub AreOf : Option Spanned → List ℕ → Type 0
AreOf None scopes = scopes ≡ []
AreOf (Some function) scopes = BeginsWith function.entry scopes
