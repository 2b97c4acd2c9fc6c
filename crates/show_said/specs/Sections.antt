-- What a module declares in a custom section: behind a first byte of 1 a vector.
use Rattle.std.specs.Prelude.{◌≡◌, ◌⊎◌, ℕ, List, [], ◌∷◌, Option, Some, None, Result, Ok, Err, if◌then◌else◌}
use Rattle.std.specs.Prelude.{nat_eq}
use Rattle.binary_wire.specs.Faults.{input}
use Rattle.binary_wire.specs.declared.fault.Refusal.{Refusal}
use Rattle.binary_wire.specs.Reading.{vector_at, Reading}
use Rattle.show_places.specs.Sections.{HasCustom, HasNoCustom}

-- Behind a first byte of 1.
abbrev pub behind_version : List ℕ → Option (List ℕ)
behind_version [] = None
behind_version (version ∷ items) = if nat_eq version 1 then Some items else None

-- What was read, or nothing where that is malformed.
abbrev pub as_read : {A : Type 0} → Result (List A × List ℕ) Refusal → List A
as_read (Ok found) = found.0
as_read (Err refusal) = []

-- A vector of items.
abbrev pub items_in : {A : Type 0} → Reading A → Option (List ℕ) → List A
items_in item None = []
items_in item (Some bytes) = as_read (vector_at 0xffff_ffff item (input bytes) bytes)

-- The items in the contents of a section: none where that isn't there.
unfoldable pub declared_in : {A : Type 0} → Reading A → List ℕ → List A
declared_in item contents = items_in item (behind_version contents)

-- Those of the first custom section with this name, and none where there is none.
abbrev pub AreDeclared : {A : Type 0} → Reading A → List ℕ → List ℕ → List A → Type 0
AreDeclared item name bytes items =
    ((contents : List ℕ) × HasCustom bytes name contents × (items ≡ declared_in item contents))
    ⊎ ((items ≡ []) × HasNoCustom bytes name)
