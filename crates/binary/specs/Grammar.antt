-- Which bytes spell which module (Core specification 1.0, sections 5.3 and 5.5; threads proposal, section "Binary
-- format"). The limits are this project's own.
use Rattle.std.specs.Prelude.{◌≡◌, ◌≢◌, ℕ, zero, suc, ◌-◌, ◌≤◌, ◌⊎◌, List, [], ◌∷◌, ◌++◌, length, replicate, Bool}
use Rattle.std.specs.Prelude.{true, false, Option, Some, None}
use Rattle.types.specs.declared.value.ValType.{ValType}
use Rattle.types.specs.declared.parts.Limits.{Limits}
use Rattle.types.specs.declared.parts.FuncType.{FuncType}
use Rattle.types.specs.declared.parts.GlobalType.{GlobalType}
use Rattle.types.specs.declared.parts.Global.{Global}
use Rattle.types.specs.declared.parts.Import.{Import}
use Rattle.types.specs.declared.parts.ImportDesc.{ImportDesc}
use Rattle.types.specs.declared.parts.ImportDesc.TheVariants as imports
use Rattle.types.specs.declared.parts.Export.{Export}
use Rattle.types.specs.declared.parts.ExportDesc.{ExportDesc}
use Rattle.types.specs.declared.parts.ElementSegment.{ElementSegment}
use Rattle.types.specs.declared.parts.DataSegment.{DataSegment}
use Rattle.types.specs.declared.parts.Body.{Body}
use Rattle.types.specs.declared.parts.Parts.{Parts}
use Rattle.binary_wire.specs.Grammar.{Spelling, IsU32, IsU32Within, IsBlock, IsName, IsSized, IsVector}
use Rattle.binary_instructions.specs.Grammar.{IsValType, SpellsExpression}
use Rattle.binary.specs.declared.kinds.ExternalKind.{ExternalKind}
use Rattle.binary.specs.declared.kinds.ExternalKind.TheVariants as kinds
use Rattle.binary.specs.declared.kinds.LimitsFlag.{LimitsFlag}
use Rattle.binary.specs.declared.kinds.LimitsFlag.TheVariants as flags
use Rattle.binary.specs.Kinds.{external_kind_of, mutability_of, table_flag_of, memory_flag_of, min_limits}
use Rattle.binary.specs.Kinds.{min_max_limits, exported}
use Rattle.binary.specs.Counts.{function_room}
use Rattle.types.specs.Within.{param_count}
use Rattle.types.specs.declared.limits.TheConstants.{MOST_PAGES, MOST_MODULE_BYTES, MOST_BODY_BYTES, MOST_ITEMS}
use Rattle.types.specs.declared.limits.TheConstants.{MOST_FUNCTIONS}
use Rattle.types.specs.declared.limits.TheConstants.{MOST_ELEMENTS, MOST_PARAMS, MOST_LOCALS}

-- A byte that has a meaning.
abbrev pub IsCoded : {A : Type 0} → (ℕ → Option A) → Spelling A
IsCoded code [] x rest = ⊥
IsCoded code (b ∷ bytes) x rest = (code b ≡ Some x) × (rest ≡ bytes)

-- A byte that has to stand there, and something behind it.
abbrev pub IsTagged : {A : Type 0} → ℕ → Spelling A → Spelling A
IsTagged tag P bytes x rest = (start : List ℕ) × (bytes ≡ tag ∷ start) × P start x rest

-- ---- types

abbrev pub IsMinMax : ℕ → ℕ → Bool → Spelling Limits
IsMinMax most_min most_max shared bytes l rest =
    (min : ℕ) × (mid : List ℕ) × IsU32Within most_min bytes min mid
    × ((max : ℕ) × IsU32Within most_max mid max rest × (l ≡ min_max_limits shared min max))

-- What stands behind the flag of limits.
abbrev pub IsLimitsAfter : ℕ → ℕ → LimitsFlag → Spelling Limits
IsLimitsAfter most_min most_max flags.Min bytes l rest = (min : ℕ) × IsU32Within most_min bytes min rest
    × (l ≡ min_limits min)
IsLimitsAfter most_min most_max flags.MinMax bytes l rest = IsMinMax most_min most_max false bytes l rest
IsLimitsAfter most_min most_max flags.SharedMinMax bytes l rest = IsMinMax most_min most_max true bytes l rest

-- A memory type: at most 256 pages.
abbrev pub IsMemory : Spelling Limits
IsMemory bytes l rest = (flag : LimitsFlag) × (mid : List ℕ) × IsCoded memory_flag_of bytes flag mid
    × IsLimitsAfter MOST_PAGES MOST_PAGES flag mid l rest

abbrev pub IsTableLimits : Spelling Limits
IsTableLimits bytes l rest = (flag : LimitsFlag) × (mid : List ℕ) × IsCoded table_flag_of bytes flag mid
    × IsLimitsAfter MOST_ELEMENTS 0xffff_ffff flag mid l rest

-- A table type: the type of its elements, and at most 10,000 elements at first.
abbrev pub IsTable : Spelling Limits
IsTable bytes l rest = IsTagged 0x70 IsTableLimits bytes l rest

abbrev pub IsGlobalType : Spelling GlobalType
IsGlobalType bytes g rest = (mid : List ℕ) × IsValType bytes g.val_type mid × IsCoded mutability_of mid g.mutable rest

abbrev pub IsFuncType : Spelling FuncType
IsFuncType bytes t rest = (start : List ℕ) × (mid : List ℕ) × (bytes ≡ 0x60 ∷ start)
    × IsVector MOST_PARAMS IsValType start t.params mid × IsVector MOST_PARAMS IsValType mid t.results rest

-- ---- items of sections

abbrev pub IsGlobal : Spelling Global
IsGlobal bytes g rest = (mid : List ℕ) × IsGlobalType bytes g.global_type mid × SpellsExpression mid g.init rest

-- What stands behind the kind of an import.
abbrev pub IsDescribed : ExternalKind → Spelling ImportDesc
IsDescribed kinds.Func bytes d rest = (n : ℕ) × IsU32 bytes n rest × (d ≡ imports.Func n)
IsDescribed kinds.Table bytes d rest = (l : Limits) × IsTable bytes l rest × (d ≡ imports.Table l)
IsDescribed kinds.Memory bytes d rest = (l : Limits) × IsMemory bytes l rest × (d ≡ imports.Memory l)
IsDescribed kinds.Global bytes d rest = (g : GlobalType) × IsGlobalType bytes g rest × (d ≡ imports.Global g)

abbrev pub IsImportDesc : Spelling ImportDesc
IsImportDesc bytes d rest = (kind : ExternalKind) × (mid : List ℕ) × IsCoded external_kind_of bytes kind mid
    × IsDescribed kind mid d rest

abbrev pub IsImport : Spelling Import
IsImport bytes i rest = (a : List ℕ) × (b : List ℕ) × IsName bytes i.«module» a × IsName a i.name b
    × IsImportDesc b i.desc rest

abbrev pub IsExportDesc : Spelling ExportDesc
IsExportDesc bytes d rest = (kind : ExternalKind) × (mid : List ℕ) × IsCoded external_kind_of bytes kind mid
    × ((n : ℕ) × IsU32 mid n rest × (d ≡ exported kind n))

abbrev pub IsExport : Spelling Export
IsExport bytes e rest = (mid : List ℕ) × IsName bytes e.name mid × IsExportDesc mid e.desc rest

abbrev pub IsElement : Spelling ElementSegment
IsElement bytes e rest = (a : List ℕ) × (b : List ℕ) × IsU32 bytes e.table a × SpellsExpression a e.offset b
    × IsVector MOST_FUNCTIONS IsU32 b e.functions rest

abbrev pub IsData : Spelling DataSegment
IsData bytes d rest = (a : List ℕ) × (b : List ℕ) × IsU32 bytes d.memory a × SpellsExpression a d.offset b
    × IsBlock b d.bytes rest

-- ---- code

-- Groups of locals, each a number and a type, written out: so many groups, and no more locals than there is room for.
abbrev pub IsGroups : ℕ → ℕ → Spelling (List ValType)
IsGroups zero room bytes locals rest = (locals ≡ []) × (rest ≡ bytes)
IsGroups (suc count) room bytes locals rest =
    (n : ℕ) × (a : List ℕ) × IsU32Within room bytes n a × ((t : ValType) × (b : List ℕ) × IsValType a t b
    × ((others : List ValType) × IsGroups count (room - n) b others rest × (locals ≡ replicate n t ++ others)))

abbrev pub IsLocals : ℕ → Spelling (List ValType)
IsLocals room bytes locals rest = (count : ℕ) × (mid : List ℕ) × IsU32 bytes count mid
    × IsGroups count room mid locals rest

-- At most 1,000 locals with the parameters.
abbrev pub IsBodyContents : ℕ → Spelling Body
IsBodyContents params bytes b rest = (mid : List ℕ) × IsLocals (MOST_LOCALS - params) bytes b.locals mid
    × SpellsExpression mid b.code rest

-- A size within a limit, and so many bytes.
abbrev pub IsBlockWithin : ℕ → Spelling (List ℕ)
IsBlockWithin limit bytes block rest = (mid : List ℕ) × IsU32Within limit bytes (length block) mid
    × (mid ≡ block ++ rest)

-- The body of a function with so many parameters.
abbrev pub IsBody : ℕ → Spelling Body
IsBody params bytes b rest = (block : List ℕ) × IsBlockWithin MOST_BODY_BYTES bytes block rest
    × IsBodyContents params block b []

-- A body for each function, which is given by the index of its type.
abbrev pub AreBodies : List FuncType → List ℕ → Spelling (List Body)
AreBodies types [] bytes [] rest = rest ≡ bytes
AreBodies types [] bytes (b ∷ bodies) rest = ⊥
AreBodies types (f ∷ functions) bytes [] rest = ⊥
AreBodies types (f ∷ functions) bytes (b ∷ bodies) rest = (mid : List ℕ) × IsBody (param_count types f) bytes b mid
    × AreBodies types functions mid bodies rest

-- The number of the functions, and their bodies.
abbrev pub IsCodeSection : List FuncType → List ℕ → Spelling (List Body)
IsCodeSection types functions bytes bodies rest = (mid : List ℕ) × IsU32 bytes (length functions) mid
    × AreBodies types functions mid bodies rest

-- ---- sections

-- A custom section: its id, and contents that begin with a name.
abbrev pub IsCustom : List ℕ → List ℕ → Type 0
IsCustom [] rest = ⊥
IsCustom (b ∷ bytes) rest = (b ≡ 0) × ((block : List ℕ) × IsBlock bytes block rest
    × ((name : List ℕ) × (more : List ℕ) × IsName block name more))

-- All the custom sections at the front, so many.
abbrev pub AreCustoms : ℕ → List ℕ → List ℕ → Type 0
AreCustoms zero bytes rest = ((more : List ℕ) → bytes ≡ 0 ∷ more → ⊥) × (rest ≡ bytes)
AreCustoms (suc k) bytes rest = (mid : List ℕ) × IsCustom bytes mid × AreCustoms k mid rest

-- The section with an id, or what stands for it where there is none.
abbrev pub IsSectionHere : {A : Type 0} → ℕ → A → Spelling A → Spelling A
IsSectionHere id absent P [] x rest = (x ≡ absent) × (rest ≡ [])
IsSectionHere id absent P (b ∷ bytes) x rest = ((b ≡ id) × IsSized P bytes x rest)
    ⊎ ((b ≢ id) × (x ≡ absent) × (rest ≡ b ∷ bytes))

-- The same behind custom sections.
abbrev pub IsSectionPart : {A : Type 0} → ℕ → A → Spelling A → Spelling A
IsSectionPart id absent P bytes x rest = (k : ℕ) × (start : List ℕ) × AreCustoms k bytes start
    × IsSectionHere id absent P start x rest

-- A section that is a vector.
abbrev pub IsSection : {A : Type 0} → ℕ → ℕ → Spelling A → Spelling (List A)
IsSection id limit P bytes xs rest = IsSectionPart id [] (IsVector limit P) bytes xs rest

abbrev pub IsStartFunction : Spelling (Option ℕ)
IsStartFunction bytes s rest = (n : ℕ) × IsU32 bytes n rest × (s ≡ Some n)

-- ---- modules

-- The magic and the version.
abbrev pub opening_bytes : List ℕ
opening_bytes = 0x00 ∷ (0x61 ∷ (0x73 ∷ (0x6d ∷ (0x01 ∷ (0x00 ∷ (0x00 ∷ (0x00 ∷ [])))))))

-- At most 1,048,576 bytes: the opening bytes and the sections in the order of their ids, with custom sections anywhere
-- between them, and as many bodies as functions. The module knows how many bytes they are. The fields before_S are the
-- bytes from the custom sections before the section S on.
pub record IsModuleText (bytes : List ℕ) (m : Parts) : Type 0 where
  pub size : length bytes ≤ MOST_MODULE_BYTES
  pub counted : m.length ≡ length bytes
  pub before_types : List ℕ
  pub before_imports : List ℕ
  pub before_functions : List ℕ
  pub before_tables : List ℕ
  pub before_memories : List ℕ
  pub before_globals : List ℕ
  pub before_exports : List ℕ
  pub before_start : List ℕ
  pub before_elements : List ℕ
  pub before_bodies : List ℕ
  pub before_data : List ℕ
  pub before_end : List ℕ
  pub opening : bytes ≡ opening_bytes ++ before_types
  pub types : IsSection 1 MOST_ITEMS IsFuncType before_types m.types before_imports
  pub imports : IsSection 2 MOST_ITEMS IsImport before_imports m.imports before_functions
  pub functions : IsSection 3 (function_room m.imports) IsU32 before_functions m.functions before_tables
  pub tables : IsSection 4 MOST_ITEMS IsTable before_tables m.tables before_memories
  pub memories : IsSection 5 MOST_ITEMS IsMemory before_memories m.memories before_globals
  pub globals : IsSection 6 MOST_ITEMS IsGlobal before_globals m.globals before_exports
  pub exports : IsSection 7 MOST_ITEMS IsExport before_exports m.exports before_start
  pub start : IsSectionPart 8 None IsStartFunction before_start m.start before_elements
  pub elements : IsSection 9 MOST_ITEMS IsElement before_elements m.elements before_bodies
  pub bodies : IsSectionPart 10 [] (IsCodeSection m.types m.functions) before_bodies m.bodies before_data
  pub data_segments : IsSection 11 MOST_ITEMS IsData before_data m.«data» before_end
  pub customs_at_end : ℕ
  pub end : AreCustoms customs_at_end before_end []
  pub counts : length m.functions ≡ length m.bodies
