-- Custom sections that may be missing.
use Rattle.std.specs.Prelude.{◌≡◌, ◌⊎◌, ℕ, List, []}
use Rattle.show_places.specs.Sections.{HasCustom, HasNoCustom}

-- What stands behind the name in the first custom section of this name; nothing where there is no such section.
abbrev pub IsCustomOrEmpty : List ℕ → List ℕ → List ℕ → Type 0
IsCustomOrEmpty bytes name contents = HasCustom bytes name contents ⊎ (HasNoCustom bytes name × (contents ≡ []))
