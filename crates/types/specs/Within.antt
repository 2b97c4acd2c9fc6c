-- The limits on a module, other than those on the sizes of its sections in bytes. They are this project's own (Core
-- specification 1.0, appendix 7.2, leaves limits to an implementation).
use Rattle.std.specs.Prelude.{ℕ, ◌+◌, ◌≤◌, List, length, count_by, Bool, true, false, IfSome, unwrap_or}
use Rattle.std.specs.Option.{option_map}
use Rattle.std.specs.Bool.{⊤}
use Rattle.std.specs.List.{All, slice_get, zip}
use Rattle.types.specs.declared.parts.Limits.{Limits}
use Rattle.types.specs.declared.parts.FuncType.{FuncType}
use Rattle.types.specs.declared.parts.ImportDesc.{ImportDesc}
use Rattle.types.specs.declared.parts.ImportDesc.TheVariants as imports
use Rattle.types.specs.declared.parts.Body.{Body}
use Rattle.types.specs.declared.parts.Parts.{Parts}
use Rattle.types.specs.declared.limits.TheConstants.{MOST_PAGES, MOST_ITEMS, MOST_FUNCTIONS, MOST_ELEMENTS, MOST_PARAMS}
use Rattle.types.specs.declared.limits.TheConstants.{MOST_LOCALS, MOST_MODULE_BYTES}

abbrev pub IsTypeWithin : FuncType → Type 0
IsTypeWithin t = (length t.params ≤ MOST_PARAMS) × (length t.results ≤ MOST_PARAMS)

-- A table has at most 10,000 elements at first.
abbrev pub IsTableWithin : Limits → Type 0
IsTableWithin l = l.min ≤ MOST_ELEMENTS

-- A memory has at most 256 pages at first, and at most 256 where a maximum is given.
abbrev pub IsMemoryWithin : Limits → Type 0
IsMemoryWithin l = (l.min ≤ MOST_PAGES) × IfSome l.max (λ m. m ≤ MOST_PAGES)

-- What holds of tables and memories holds of imported ones too.
abbrev pub IsDescWithin : ImportDesc → Type 0
IsDescWithin (imports.Func f) = ⊤
IsDescWithin (imports.Table l) = IsTableWithin l
IsDescWithin (imports.Memory l) = IsMemoryWithin l
IsDescWithin (imports.Global g) = ⊤

abbrev pub is_func : ImportDesc → Bool
is_func (imports.Func f) = true
is_func (imports.Table l) = false
is_func (imports.Memory l) = false
is_func (imports.Global g) = false

-- The parameters of a type by its index: none where no type has it.
abbrev pub param_count : List FuncType → ℕ → ℕ
param_count types index = unwrap_or (option_map (λ t. length t.params) (slice_get types index)) 0

abbrev pub IsBodyWithin : List FuncType → ℕ → Body → Type 0
IsBodyWithin types index body = param_count types index + length body.locals ≤ MOST_LOCALS

-- A module within the limits. The number of bodies has none of its own.
pub record IsWithinLimits (m : Parts) : Type 0 where
  pub types : length m.types ≤ MOST_ITEMS
  pub imports : length m.imports ≤ MOST_ITEMS
  pub functions : count_by (λ i. is_func i.desc) m.imports + length m.functions ≤ MOST_FUNCTIONS
  pub tables : length m.tables ≤ MOST_ITEMS
  pub memories : length m.memories ≤ MOST_ITEMS
  pub globals : length m.globals ≤ MOST_ITEMS
  pub exports : length m.exports ≤ MOST_ITEMS
  pub elements : length m.elements ≤ MOST_ITEMS
  pub data_segments : length m.data ≤ MOST_ITEMS
  pub size : m.length ≤ MOST_MODULE_BYTES
  pub each_type : All IsTypeWithin m.types
  pub each_import : All (λ i. IsDescWithin i.desc) m.imports
  pub each_table : All IsTableWithin m.tables
  pub each_memory : All IsMemoryWithin m.memories
  pub each_element : All (λ e. length e.functions ≤ MOST_FUNCTIONS) m.elements
  pub each_body : All (λ f. IsBodyWithin m.types f.0 f.1) (zip m.functions m.bodies)
