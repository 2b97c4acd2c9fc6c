-- What is added to a text.
use Rattle.std.specs.Prelude.{◌≡◌, ℕ, List, ◌++◌}

-- The new text begins with the whole old one.
abbrev pub IsAddedTo : List ℕ → List ℕ → Type 0
IsAddedTo old new = (text : List ℕ) × (new ≡ old ++ text)
