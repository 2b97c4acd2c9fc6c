-- Which function is exported by a name, and which bodies are valid.
use Rattle.std.specs.Prelude.{◌≡◌, ℕ, ◌+◌, ◌<◌, List, length, Some}
use Rattle.std.specs.List.{slice_get, All, zip}
use Rattle.types.specs.declared.parts.Export.{Export}
use Rattle.types.specs.declared.parts.ExportDesc.TheVariants as exports
use Rattle.types.specs.declared.parts.Parts.{Parts}
use Rattle.validate_typing.specs.Context.{imported_functions, context_of}
use Rattle.validate_typing.specs.Validity.{IsValidFunction}

-- A function of the module itself, counted from 0 without the imported ones, is exported by this name.
pub record IsExported (m : Parts) (name : List ℕ) (own : ℕ) : Type 0 where
  pub place : ℕ
  pub entry : Export
  pub exported : slice_get m.exports place ≡ Some entry
  pub named : entry.name ≡ name
  pub desc : entry.desc ≡ exports.Func (length (imported_functions m) + own)
  pub function : own < length m.functions

-- Each function has a type that is there.
abbrev pub HasTypeIndices : Parts → Type 0
HasTypeIndices m = All (λ index. index < length m.types) m.functions

-- Each function has a type that is there, and a body that is typed (Core specification 1.0, section 3.4.1).
abbrev pub HasValidBodies : Parts → Type 0
HasValidBodies m = All (λ f. IsValidFunction (context_of m) f.0 f.1) (zip m.functions m.bodies)
