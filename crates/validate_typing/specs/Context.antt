-- What code may use.
use Rattle.std.specs.Prelude.{ℕ, List, [], ◌∷◌, ◌++◌, map}
use Rattle.std.specs.List.{flat_map}
use Rattle.types.specs.declared.value.ValType.{ValType}
use Rattle.types.specs.declared.parts.Limits.{Limits}
use Rattle.types.specs.declared.parts.FuncType.{FuncType}
use Rattle.types.specs.declared.parts.GlobalType.{GlobalType}
use Rattle.types.specs.declared.parts.Import.{Import}
use Rattle.types.specs.declared.parts.ImportDesc.{ImportDesc}
use Rattle.types.specs.declared.parts.ImportDesc.TheVariants as imports
use Rattle.types.specs.declared.parts.Body.{Body}
use Rattle.types.specs.declared.parts.Parts.{Parts}

-- What may be named by an index (Core specification 1.0, section 3.1.1). A function stands there by the index of its
-- type.
pub record Context : Type 0 where
  pub types : List FuncType
  pub functions : List ℕ
  pub tables : List Limits
  pub memories : List Limits
  pub globals : List GlobalType
  pub locals : List ValType
  pub results : List ValType

abbrev pub function_of : ImportDesc → List ℕ
function_of (imports.Func index) = index ∷ []
function_of (imports.Table l) = []
function_of (imports.Memory l) = []
function_of (imports.Global g) = []

abbrev pub memory_of : ImportDesc → List Limits
memory_of (imports.Func index) = []
memory_of (imports.Table l) = []
memory_of (imports.Memory l) = l ∷ []
memory_of (imports.Global g) = []

-- The imported functions, by the indices of their types.
abbrev pub imported_functions : Parts → List ℕ
imported_functions m = flat_map (λ (i : Import). function_of i.desc) m.imports

-- All functions, by the indices of their types: the imported ones come first (section 2.5).
abbrev pub functions_of : Parts → List ℕ
functions_of m = imported_functions m ++ m.functions

-- All memories, the imported ones first.
abbrev pub memories_of : Parts → List Limits
memories_of m = flat_map (λ (i : Import). memory_of i.desc) m.imports ++ m.memories

-- What all code of a module may use (section 3.4.10). Tables and globals aren't imported here.
abbrev pub context_of : Parts → Context
context_of m = record {
  types = m.types;
  functions = functions_of m;
  tables = m.tables;
  memories = memories_of m;
  globals = map (λ g. g.global_type) m.globals;
  locals = [];
  results = [];
}

-- What the body of a function of this type may use (section 3.4.1): its locals are the parameters and those that the
-- body states.
abbrev pub in_function : Context → FuncType → Body → Context
in_function c t body = record c { locals = t.params ++ body.locals; results = t.results }
