-- Which modules are valid (Core specification 1.0, chapter 3.4; wasi-threads for the imported function and the entry of
-- a spawned thread; what is left out is this project's own).
use Rattle.std.specs.Prelude.{◌≡◌, ℕ, ◌+◌, ◌*◌, ◌≤◌, ◌<◌, List, [], ◌∷◌, length, Some, None, true, false, IfSome, codes}
use Rattle.std.specs.List.{slice_get, All, zip}
use Rattle.types.specs.declared.value.ValType.{ValType}
use Rattle.types.specs.declared.value.ValType.TheVariants.{I32}
use Rattle.types.specs.declared.value.Value.{Value}
use Rattle.types.specs.declared.value.Value.TheVariants as values
use Rattle.types.specs.declared.instr.Instr.{Instr}
use Rattle.types.specs.declared.instr.Instr.TheVariants as instrs
use Rattle.types.specs.declared.parts.Limits.{Limits}
use Rattle.types.specs.declared.parts.FuncType.{FuncType}
use Rattle.types.specs.declared.parts.Import.{Import}
use Rattle.types.specs.declared.parts.ImportDesc.{ImportDesc}
use Rattle.types.specs.declared.parts.ImportDesc.TheVariants as imports
use Rattle.types.specs.declared.parts.Export.{Export}
use Rattle.types.specs.declared.parts.ExportDesc.{ExportDesc}
use Rattle.types.specs.declared.parts.ExportDesc.TheVariants as exports
use Rattle.types.specs.declared.parts.Global.{Global}
use Rattle.types.specs.declared.parts.ElementSegment.{ElementSegment}
use Rattle.types.specs.declared.parts.DataSegment.{DataSegment}
use Rattle.types.specs.declared.parts.Body.{Body}
use Rattle.types.specs.declared.parts.Parts.{Parts}
use Rattle.types.specs.Values.{type_of, const_of}
use Rattle.types.specs.declared.limits.TheConstants.{PAGE_SIZE}
use Rattle.validate_typing.specs.Context.{Context, imported_functions, functions_of, memories_of, context_of}
use Rattle.validate_typing.specs.Context.{in_function}
use Rattle.validate_typing.specs.Typing.{IsTyped}

-- A function type has one result at most (section 3.2.3).
abbrev pub IsValidType : FuncType → Type 0
IsValidType t = length t.results ≤ 1

-- The type of a function by its index.
abbrev pub HasFunctionType : Parts → ℕ → List ValType → List ValType → Type 0
HasFunctionType m index params results = (t : FuncType) × (slice_get m.types index ≡ Some t) × (t.params ≡ params)
    × (t.results ≡ results)

-- The imports that there are: the function that starts a thread, and the memory.
abbrev pub IsValidImportOf : Parts → List ℕ → List ℕ → ImportDesc → Type 0
IsValidImportOf m from name (imports.Func index) =
    (from ≡ codes "wasi") × (name ≡ codes "thread-spawn") × HasFunctionType m index (I32 ∷ []) (I32 ∷ [])
IsValidImportOf m from name (imports.Table l) = ⊥
IsValidImportOf m from name (imports.Memory l) = (from ≡ codes "env") × (name ≡ codes "memory")
IsValidImportOf m from name (imports.Global g) = ⊥

abbrev pub IsValidImport : Parts → Import → Type 0
IsValidImport m i = IsValidImportOf m i.module i.name i.desc

-- Where a maximum is given, the minimum doesn't pass it (section 3.2.1).
abbrev pub IsOrdered : Limits → Type 0
IsOrdered l = IfSome l.max (λ n. l.min ≤ n)

-- A table isn't shared (section 3.2.4).
abbrev pub IsValidTable : Limits → Type 0
IsValidTable l = IsOrdered l × (l.shared ≡ false)

-- A shared memory has a maximum (section 3.2.5; threads proposal, "Shared linear memory").
abbrev pub IsValidMemory : Limits → Type 0
IsValidMemory l = IsOrdered l × (l.shared ≡ true → (n : ℕ) × (l.max ≡ Some n))

-- A constant expression: one integer constant (section 3.3.7; there is no imported global that it could get).
abbrev pub IsConstant : List Instr → Value → Type 0
IsConstant code v = code ≡ instrs.Plain (const_of v) ∷ (instrs.End ∷ [])

-- A global begins with a constant of its type (section 3.4.4).
abbrev pub IsValidGlobal : Global → Type 0
IsValidGlobal g = (v : Value) × IsConstant g.init v × (type_of v ≡ g.global_type.val_type)

-- What is exported is there (section 3.4.8).
abbrev pub IsThere : Parts → ExportDesc → Type 0
IsThere m (exports.Func f) = f < length (functions_of m)
IsThere m (exports.Table t) = t < length m.tables
IsThere m (exports.Memory k) = k < length (memories_of m)
IsThere m (exports.Global g) = g < length m.globals

-- No two exports have one name (section 3.4.10).
abbrev pub HasDistinctNames : List Export → Type 0
HasDistinctNames es = (i j : ℕ) (a b : Export) → i < j → slice_get es i ≡ Some a → slice_get es j ≡ Some b
    → a.name ≡ b.name → ⊥

-- The functions of an element segment are there, and lie within the table's minimum (sections 3.4.5 and 4.5.4).
abbrev pub IsValidElement : Parts → ElementSegment → Type 0
IsValidElement m e =
    (l : Limits) × (offset : ℕ) × (slice_get m.tables e.table ≡ Some l) × IsConstant e.offset (values.I32 offset) ×
    All (λ f. f < length (functions_of m)) e.functions × (offset + length e.functions ≤ l.min)

-- The bytes of a data segment lie within the opening pages (sections 3.4.6 and 4.5.4).
abbrev pub IsValidData : Parts → DataSegment → Type 0
IsValidData m d =
    (l : Limits) × (offset : ℕ) × (slice_get (memories_of m) d.memory ≡ Some l)
    × IsConstant d.offset (values.I32 offset) ×
    (offset + length d.bytes ≤ PAGE_SIZE * l.min)

-- What a module that starts threads has (wasi-threads): a shared memory, and an export `wasi_thread_start`, a function
-- of its own that takes a thread's number and its argument.
pub record IsThreaded (m : Parts) : Type 0 where
  pub place : ℕ
  pub entry : Export
  pub own : ℕ
  pub index : ℕ
  pub memory : Limits
  pub exported : slice_get m.exports place ≡ Some entry
  pub name : entry.name ≡ codes "wasi_thread_start"
  pub desc : entry.desc ≡ exports.Func (length (imported_functions m) + own)
  pub function : slice_get m.functions own ≡ Some index
  pub takes_two : HasFunctionType m index (I32 ∷ (I32 ∷ [])) []
  pub has_memory : slice_get (memories_of m) 0 ≡ Some memory
  pub shared : memory.shared ≡ true

-- A function's type is there, and its body is typed (section 3.4.1).
abbrev pub IsValidFunction : Context → ℕ → Body → Type 0
IsValidFunction c index body = (t : FuncType) × (slice_get c.types index ≡ Some t)
    × IsTyped (in_function c t body) body.code

-- A valid module (section 3.4.10). There is no start function.
pub record IsValid (m : Parts) : Type 0 where
  pub types : All IsValidType m.types
  pub imports : All (IsValidImport m) m.imports
  pub function_types : All (λ index. index < length m.types) m.functions
  pub one_table : length m.tables ≤ 1
  pub tables : All IsValidTable m.tables
  pub one_memory : length (memories_of m) ≤ 1
  pub memories : All IsValidMemory (memories_of m)
  pub globals : All IsValidGlobal m.globals
  pub export_names : HasDistinctNames m.exports
  pub exports : All (λ e. IsThere m e.desc) m.exports
  pub start : m.start ≡ None
  pub elements : All (IsValidElement m) m.elements
  pub data_segments : All (IsValidData m) m.data
  pub threads : 0 < length (imported_functions m) → IsThreaded m
  pub functions : All (λ f. IsValidFunction (context_of m) f.0 f.1) (zip m.functions m.bodies)
