-- Sections, and which of them is the first of its kind (Core specification 1.0, section 5.5.2).
use Rattle.std.specs.Prelude.{◌≡◌, ℕ, ◌-◌, List, [], ◌∷◌, length, drop, Ok, Option, MatchOption}
use Rattle.binary_wire.specs.declared.bounds.Bounds.{Bounds}
use Rattle.binary_wire.specs.Reading.{Reading, ◌>>=◌, byte_at, block_at}
use Rattle.binary_wire.specs.Faults.{input, offset_of}
use Rattle.show_places.specs.declared.sections.Section.{Section}

-- A section: its id, the offset of its contents, and these.
abbrev pub Part : Type 0
Part = ℕ × ℕ × List ℕ

unfoldable pub section_at : Reading Part
section_at s bytes = do
  id ← byte_at s bytes
  contents ← block_at s id.1
  Ok ((id.0, offset_of s contents.1 - length contents.0, contents.0), contents.1)

-- Behind these sections, none of which is such a one, these bytes are left.
abbrev pub Behind : (Part → Type 0) → Bounds → List Part → List ℕ → List ℕ → Type 0
Behind P s [] bytes rest = rest ≡ bytes
Behind P s (x ∷ xs) bytes rest =
    (P x → ⊥) × (mid : List ℕ) × (section_at s bytes ≡ Ok (x, mid)) × Behind P s xs mid rest

-- This section is such a one, and no section before it is.
pub record HasFirst (P : Part → Type 0) (s : Bounds) (bytes : List ℕ) (x : Part) : Type 0 where
  pub before : List Part
  pub left : List ℕ
  pub rest : List ℕ
  pub behind : Behind P s before bytes left
  pub stands : section_at s left ≡ Ok (x, rest)
  pub is : P x

-- No section is such a one, up to where the bytes end or are no section.
abbrev pub HasNone : (Part → Type 0) → Bounds → List ℕ → Type 0
HasNone P s bytes = (x : Part) → HasFirst P s bytes x → ⊥

abbrev pub part_of : Section → Part
part_of s = (s.id, s.offset, s.contents.now)

-- The first section of an id, or that there is none.
abbrev pub FindsPart : Bounds → List ℕ → ℕ → Option Section → Type 0
FindsPart s bytes id found =
    MatchOption found (HasNone (λ x. x.0 ≡ id) s bytes) (λ section. HasFirst (λ x. x.0 ≡ id) s bytes (part_of section))

-- The first eight bytes of a module are its header.
abbrev pub FindsSection : List ℕ → ℕ → Option Section → Type 0
FindsSection bytes id found = FindsPart (input bytes) (drop 8 bytes) id found

-- Subsections have the form of sections, without a header.
abbrev pub FindsSubsection : List ℕ → ℕ → Option Section → Type 0
FindsSubsection bytes id found = FindsPart (input bytes) bytes id found

-- A size and that many bytes of a name, and these bytes behind it.
abbrev pub IsNamed : List ℕ → List ℕ → List ℕ → Type 0
IsNamed bytes name contents = block_at (input bytes) bytes ≡ Ok (name, contents)

-- No name stands there.
abbrev pub IsUnnamed : List ℕ → Type 0
IsUnnamed bytes = (name contents : List ℕ) → IsNamed bytes name contents → ⊥

-- A custom section of this name.
abbrev pub IsCustom : List ℕ → Part → Type 0
IsCustom name x = (x.0 ≡ 0) × (contents : List ℕ) × IsNamed x.2 name contents

-- The first custom section of this name has these contents behind it.
abbrev pub HasCustom : List ℕ → List ℕ → List ℕ → Type 0
HasCustom bytes name contents =
    (x : Part) × HasFirst (IsCustom name) (input bytes) (drop 8 bytes) x × IsNamed x.2 name contents

abbrev pub HasNoCustom : List ℕ → List ℕ → Type 0
HasNoCustom bytes name = (contents : List ℕ) → HasCustom bytes name contents → ⊥
