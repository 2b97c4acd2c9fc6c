-- Sections and modules, read from left to right: the value, or the first fault with its offset.
use Rattle.std.specs.Prelude.{ℕ, zero, suc, ◌-◌, List, [], ◌∷◌, ◌++◌, length, replicate, Bool, true, false, Option}
use Rattle.std.specs.Prelude.{Some, None, Result, Ok, Err, MatchResult, slice_index_or, nat_lt, nat_eq, if◌then◌else◌}
use Rattle.std.specs.Prelude.{◌≡◌}
use Rattle.types.specs.declared.value.ValType.{ValType}
use Rattle.types.specs.declared.parts.Limits.{Limits}
use Rattle.types.specs.declared.parts.FuncType.{FuncType}
use Rattle.types.specs.declared.parts.GlobalType.{GlobalType}
use Rattle.types.specs.declared.parts.Global.{Global}
use Rattle.types.specs.declared.parts.Import.{Import}
use Rattle.types.specs.declared.parts.ImportDesc.{ImportDesc}
use Rattle.types.specs.declared.parts.ImportDesc.TheVariants as imports
use Rattle.types.specs.declared.parts.Export.{Export}
use Rattle.types.specs.declared.parts.ExportDesc.{ExportDesc}
use Rattle.types.specs.declared.parts.ElementSegment.{ElementSegment}
use Rattle.types.specs.declared.parts.DataSegment.{DataSegment}
use Rattle.types.specs.declared.parts.Body.{Body}
use Rattle.types.specs.declared.parts.Parts.{Parts}
use Rattle.binary_wire.specs.declared.bounds.Bounds.{Bounds}
use Rattle.binary_wire.specs.declared.fault.Fault.{Fault}
use Rattle.binary_wire.specs.declared.fault.Fault.TheVariants as faults
use Rattle.binary_wire.specs.declared.fault.Refusal.{Refusal}
use Rattle.binary_wire.specs.declared.fault.ReadFault.{ReadFault}
use Rattle.binary_wire.specs.Faults.{refusal, refused, inside, input}
use Rattle.binary_wire.specs.Reading.{Reading, ◌>>=◌, Refuses, some_or, byte_at, tag_at, end_at, front_is, slice_at}
use Rattle.binary_wire.specs.Reading.{u32_at, u32_within_at}
use Rattle.binary_wire.specs.Reading.{block_at, name_at, sized_at, vector_at}
use Rattle.binary_instructions.specs.Reading.{val_type_at, expression_at}
use Rattle.binary.specs.declared.kinds.ExternalKind.{ExternalKind}
use Rattle.binary.specs.declared.kinds.ExternalKind.TheVariants as kinds
use Rattle.binary.specs.declared.kinds.LimitsFlag.{LimitsFlag}
use Rattle.binary.specs.declared.kinds.LimitsFlag.TheVariants as flags
use Rattle.binary.specs.declared.parts.Signatures.{Signatures}
use Rattle.binary.specs.declared.parts.Stores.{Stores}
use Rattle.binary.specs.declared.parts.Contents.{Contents}
use Rattle.binary.specs.Kinds.{external_kind_of, mutability_of, table_flag_of, memory_flag_of, min_limits}
use Rattle.binary.specs.Kinds.{min_max_limits, exported}
use Rattle.binary.specs.Counts.{function_room}
use Rattle.binary.specs.Grammar.{IsModuleText}
use Rattle.types.specs.Within.{param_count}
use Rattle.types.specs.declared.limits.TheConstants.{MOST_PAGES, MOST_MODULE_BYTES, MOST_BODY_BYTES, MOST_ITEMS}
use Rattle.types.specs.declared.limits.TheConstants.{MOST_FUNCTIONS}
use Rattle.types.specs.declared.limits.TheConstants.{MOST_ELEMENTS, MOST_PARAMS, MOST_LOCALS}

-- A byte that has a meaning.
unfoldable pub coded_at : {A : Type 0} → Fault → (ℕ → Option A) → Reading A
coded_at kind code s bytes = byte_at s bytes >>= λ b. some_or (refused kind s bytes) (code b.0) >>= λ x. Ok (x, b.1)

-- What an import or an export is.
abbrev pub external_kind_at : Reading ExternalKind
external_kind_at = coded_at faults.UnknownByte external_kind_of

-- What stands behind the flag of limits.
unfoldable pub limits_after_at : ℕ → ℕ → LimitsFlag → Reading Limits
limits_after_at most_min most_max flags.Min s bytes = u32_within_at most_min s bytes >>= λ n. Ok (min_limits n.0, n.1)
limits_after_at most_min most_max flags.MinMax s bytes =
    u32_within_at most_min s bytes >>= λ n. u32_within_at most_max s n.1 >>= λ m. Ok (min_max_limits false n.0 m.0, m.1)
limits_after_at most_min most_max flags.SharedMinMax s bytes =
    u32_within_at most_min s bytes >>= λ n. u32_within_at most_max s n.1 >>= λ m. Ok (min_max_limits true n.0 m.0, m.1)

unfoldable pub memory_at : Reading Limits
memory_at s bytes =
    coded_at faults.LimitsFlag memory_flag_of s bytes >>= λ flag. limits_after_at MOST_PAGES MOST_PAGES flag.0 s flag.1

unfoldable pub table_at : Reading Limits
table_at s bytes =
    tag_at faults.UnknownByte 0x70 s bytes >>= λ start. coded_at faults.LimitsFlag table_flag_of s start >>= λ flag.
    limits_after_at
    MOST_ELEMENTS 0xffff_ffff flag.0 s flag.1

unfoldable pub global_type_at : Reading GlobalType
global_type_at s bytes = do
  val_type ← val_type_at s bytes
  mutable ← coded_at faults.UnknownByte mutability_of s val_type.1
  Ok (record { val_type = val_type.0; mutable = mutable.0 }, mutable.1)

unfoldable pub func_type_at : Reading FuncType
func_type_at s bytes = do
  start ← tag_at faults.UnknownByte 0x60 s bytes
  params ← vector_at MOST_PARAMS val_type_at s start
  results ← vector_at MOST_PARAMS val_type_at s params.1
  Ok (record { params = params.0; results = results.0 }, results.1)

unfoldable pub global_at : Reading Global
global_at s bytes = do
  global_type ← global_type_at s bytes
  init ← expression_at s global_type.1
  Ok (record { global_type = global_type.0; init = init.0 }, init.1)

-- What stands behind the kind of an import.
unfoldable pub described_at : ExternalKind → Reading ImportDesc
described_at kinds.Func s bytes = u32_at s bytes >>= λ n. Ok (imports.Func n.0, n.1)
described_at kinds.Table s bytes = table_at s bytes >>= λ l. Ok (imports.Table l.0, l.1)
described_at kinds.Memory s bytes = memory_at s bytes >>= λ l. Ok (imports.Memory l.0, l.1)
described_at kinds.Global s bytes = global_type_at s bytes >>= λ g. Ok (imports.Global g.0, g.1)

unfoldable pub import_desc_at : Reading ImportDesc
import_desc_at s bytes = external_kind_at s bytes >>= λ kind. described_at kind.0 s kind.1

unfoldable pub import_at : Reading Import
import_at s bytes = do
  from ← name_at s bytes
  name ← name_at s from.1
  desc ← import_desc_at s name.1
  Ok (record { «module» = from.0; name = name.0; desc = desc.0 }, desc.1)

unfoldable pub export_desc_at : Reading ExportDesc
export_desc_at s bytes =
    external_kind_at s bytes >>= λ kind. u32_at s kind.1 >>= λ n. Ok (exported kind.0 n.0, n.1)

unfoldable pub export_at : Reading Export
export_at s bytes = do
  name ← name_at s bytes
  desc ← export_desc_at s name.1
  Ok (record { name = name.0; desc = desc.0 }, desc.1)

unfoldable pub element_at : Reading ElementSegment
element_at s bytes = do
  table ← u32_at s bytes
  offset ← expression_at s table.1
  functions ← vector_at MOST_FUNCTIONS u32_at s offset.1
  Ok (record { table = table.0; offset = offset.0; functions = functions.0 }, functions.1)

unfoldable pub data_at : Reading DataSegment
data_at s bytes = do
  memory ← u32_at s bytes
  offset ← expression_at s memory.1
  block ← block_at s offset.1
  Ok (record { memory = memory.0; offset = offset.0; bytes = block.0 }, block.1)

-- Groups of locals, so many, written out.
unfoldable pub groups_at : ℕ → ℕ → Reading (List ValType)
groups_at zero room s bytes = Ok ([], bytes)
groups_at (suc count) room s bytes =
    u32_within_at room s bytes >>= λ n. val_type_at s n.1 >>= λ t. groups_at count (room - n.0) s t.1 >>= λ others. Ok
    (replicate n.0 t.0 ++ others.0, others.1)

unfoldable pub locals_at : ℕ → Reading (List ValType)
locals_at room s bytes = u32_at s bytes >>= λ count. groups_at count.0 room s count.1

unfoldable pub body_contents_at : ℕ → Reading Body
body_contents_at params s bytes = do
  locals ← locals_at (MOST_LOCALS - params) s bytes
  code ← expression_at s locals.1
  Ok (record { locals = locals.0; code = code.0 }, code.1)

unfoldable pub block_within_at : ℕ → Reading (List ℕ)
block_within_at limit s bytes = u32_within_at limit s bytes >>= λ n. slice_at n.0 s n.1

unfoldable pub body_at : ℕ → Reading Body
body_at params s bytes = do
  contents ← block_within_at MOST_BODY_BYTES s bytes
  b ← body_contents_at params (inside s contents.1) contents.0
  whole ← end_at (inside s contents.1) b.1
  Ok (b.0, contents.1)

-- The body of the function with this place among those of the module.
abbrev pub body_of_at : List FuncType → List ℕ → ℕ → Reading Body
body_of_at types functions place = body_at (param_count types (slice_index_or functions place 0))

-- A body for each function.
unfoldable pub bodies_at : List FuncType → List ℕ → Reading (List Body)
bodies_at types [] s bytes = Ok ([], bytes)
bodies_at types (f ∷ functions) s bytes = do
  first ← body_at (param_count types f) s bytes
  others ← bodies_at types functions s first.1
  Ok (first.0 ∷ others.0, others.1)

unfoldable pub code_section_at : List FuncType → List ℕ → Reading (List Body)
code_section_at types functions s bytes = do
  n ← u32_at s bytes
  if nat_eq n.0 (length functions) then bodies_at types functions s n.1 else Err (refused faults.CountsDiffer s bytes)

-- A custom section.
unfoldable pub custom_at : Reading Bool
custom_at s bytes = do
  id ← byte_at s bytes
  contents ← block_at s id.1
  name ← name_at (inside s contents.1) contents.0
  Ok (true, contents.1)

-- Custom sections are passed over, at most so many.
unfoldable pub customs_at : ℕ → Bounds → List ℕ → Result (List ℕ) Refusal
customs_at zero s bytes = Ok bytes
customs_at (suc most) s bytes = if front_is 0 bytes then (custom_at s bytes >>= λ x. customs_at most s x.1)
    else Ok bytes

-- The section with an id, or what stands for it where there is none. Each custom section takes a byte at least.
unfoldable pub part_at : {A : Type 0} → ℕ → A → Reading A → Reading A
part_at id absent inner s bytes = do
  start ← customs_at (length bytes) s bytes
  if front_is id start then (byte_at s start >>= λ code. sized_at inner s code.1) else Ok (absent, start)

unfoldable pub section_at : {A : Type 0} → ℕ → ℕ → Reading A → Reading (List A)
section_at id limit item s bytes = part_at id [] (vector_at limit item) s bytes

unfoldable pub start_function_at : Reading (Option ℕ)
start_function_at s bytes = u32_at s bytes >>= λ n. Ok (Some n.0, n.1)

unfoldable pub start_at : Reading (Option ℕ)
start_at s bytes = part_at 8 None start_function_at s bytes

unfoldable pub code_at : List FuncType → List ℕ → Reading (List Body)
code_at types functions s bytes = part_at 10 [] (code_section_at types functions) s bytes

-- Nothing is left of the input. A section that is left is unknown, or out of order.
abbrev pub finish_at : Bounds → List ℕ → Result Bool Refusal
finish_at s [] = Ok true
finish_at s (id ∷ bytes) =
    Err (refused (if nat_lt 11 id then faults.UnknownByte else faults.SectionOrder) s (id ∷ bytes))

-- Bytes that have to stand there.
unfoldable pub fixed_at : Fault → List ℕ → Bounds → List ℕ → Result (List ℕ) Refusal
fixed_at kind [] s bytes = Ok bytes
fixed_at kind (b ∷ expected) s bytes = tag_at kind b s bytes >>= λ rest. fixed_at kind expected s rest

unfoldable pub opening_at : Bounds → List ℕ → Result (List ℕ) Refusal
opening_at s bytes =
    fixed_at faults.Magic (0x00 ∷ (0x61 ∷ (0x73 ∷ (0x6d ∷ [])))) s bytes >>= λ rest. fixed_at
    faults.Version (0x01 ∷ (0x00 ∷ (0x00 ∷ (0x00 ∷ [])))) s rest

unfoldable pub signatures_at : Reading Signatures
signatures_at s bytes = do
  types ← section_at 1 MOST_ITEMS func_type_at s bytes
  from ← section_at 2 MOST_ITEMS import_at s types.1
  functions ← section_at 3 (function_room from.0) u32_at s from.1
  Ok (record { types = types.0; imports = from.0; functions = functions.0 }, functions.1)

unfoldable pub stores_at : Reading Stores
stores_at s bytes = do
  tables ← section_at 4 MOST_ITEMS table_at s bytes
  memories ← section_at 5 MOST_ITEMS memory_at s tables.1
  globals ← section_at 6 MOST_ITEMS global_at s memories.1
  exports ← section_at 7 MOST_ITEMS export_at s globals.1
  start ← start_at s exports.1
  Ok (
    record { tables = tables.0; memories = memories.0; globals = globals.0; exports = exports.0; start = start.0 },
    start.1,
  )

-- The contents of a module with these types and functions.
unfoldable pub contents_at : List FuncType → List ℕ → Reading Contents
contents_at types functions s bytes = do
  elements ← section_at 9 MOST_ITEMS element_at s bytes
  bodies ← code_at types functions s elements.1
  segments ← section_at 11 MOST_ITEMS data_at s bodies.1
  Ok (record { elements = elements.0; bodies = bodies.0; «data» = segments.0 }, segments.1)

abbrev pub parts_of : ℕ → Signatures → Stores → Contents → Parts
parts_of size signatures stores contents = record {
  types = signatures.types;
  imports = signatures.imports;
  functions = signatures.functions;
  tables = stores.tables;
  memories = stores.memories;
  globals = stores.globals;
  exports = stores.exports;
  start = stores.start;
  elements = contents.elements;
  bodies = contents.bodies;
  «data» = contents.«data»;
  length = size;
}

-- What is behind the last section of a module with so many functions and so many bodies: custom sections, and nothing
-- else. There have to be as many functions as bodies.
abbrev pub end_of_module_at : ℕ → ℕ → Bounds → List ℕ → Result Bool Refusal
end_of_module_at functions bodies s bytes = do
  rest ← customs_at (length bytes) s bytes
  whole ← finish_at s rest
  if nat_eq functions bodies then Ok true else Err (refused faults.CountsDiffer s rest)

-- The contents of a module with these types and functions, one body for each: custom sections may stand behind them,
-- and nothing else.
unfoldable pub last_at : List FuncType → List ℕ → Bounds → List ℕ → Result Contents Refusal
last_at types functions s bytes = do
  contents ← contents_at types functions s bytes
  rest ← customs_at (length contents.1) s contents.1
  whole ← finish_at s rest
  if nat_eq (length functions) (length contents.0.bodies) then Ok contents.0 else Err
      (refused faults.CountsDiffer s rest)

-- The sections of a module of so many bytes, behind the opening bytes.
unfoldable pub sections_at : ℕ → Bounds → List ℕ → Result Parts Refusal
sections_at size s bytes = do
  signatures ← signatures_at s bytes
  stores ← stores_at s signatures.1
  contents ← last_at signatures.0.types signatures.0.functions s stores.1
  Ok (parts_of size signatures.0 stores.0 contents)

-- The module that the bytes spell, or the first fault from front to back, and its offset.
unfoldable pub module_at : List ℕ → Result Parts Refusal
module_at bytes =
    if nat_lt MOST_MODULE_BYTES (length bytes) then Err (refusal faults.Limit MOST_MODULE_BYTES)
    else (opening_at (input bytes) bytes >>= λ opened. sections_at (length bytes) (input bytes) opened)

-- Where the bytes spell a module, it is the one that is read, or memory ran out.
abbrev pub FindsModule : List ℕ → Result Parts ReadFault → Type 0
FindsModule bytes result =
    (m : Parts) → IsModuleText bytes m → MatchResult result (λ found. found ≡ m) (λ e. Refuses e → ⊥)
