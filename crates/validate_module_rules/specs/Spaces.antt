-- What code names by an index.
use Rattle.std.specs.Prelude.{◌≡◌, ℕ, List, length, Option, Some, None}
use Rattle.std.specs.Option.{MatchOption}
use Rattle.std.specs.List.{flat_map}
use Rattle.types.specs.declared.parts.Import.{Import}
use Rattle.types.specs.declared.parts.Limits.{Limits}
use Rattle.types.specs.declared.parts.Parts.{Parts}
use Rattle.validate_typing.specs.Context.{function_of, memory_of, imported_functions, functions_of, memories_of}
use Rattle.validate_module_rules.specs.declared.spaces.IndexSpaces.{IndexSpaces}

-- What is found, and nothing where nothing is there; what is answered is read so.
abbrev pub FindsAs : {A B : Type 0} → Option A → Option B → (B → A) → Type 0
FindsAs found answer read = MatchOption answer (found ≡ None) (λ x. found ≡ Some (read x))

-- The functions that are imported, by the indices of their types, and the memories.
abbrev pub functions_in : List Import → List ℕ
functions_in imports = flat_map (λ (i : Import). function_of i.desc) imports

abbrev pub memories_in : List Import → List Limits
memories_in imports = flat_map (λ (i : Import). memory_of i.desc) imports

-- The index spaces of a module, with the imported items first (Core specification 1.0, section 2.5).
pub record IsSpacesOf (m : Parts) (s : IndexSpaces) : Type 0 where
  pub imported : s.imported ≡ length (imported_functions m)
  pub functions : s.functions.items ≡ functions_of m
  pub memories : s.memories.items ≡ memories_of m
