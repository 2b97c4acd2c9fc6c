-- The first fault of a module outside the bodies of its functions, in this project's order of the rules. That there is
-- none exactly where the module keeps the rules is proved.
use Rattle.std.specs.Prelude.{ℕ, ◌+◌, ◌-◌, ◌*◌, if◌then◌else◌, List, [], ◌∷◌, ◌++◌, length, Bool, true, false, ◌&&◌}
use Rattle.std.specs.Prelude.{not, nat_le, nat_lt, nat_eq, Option, Some, None, is_none, find, codes}
use Rattle.std.specs.Option.{option_or}
use Rattle.std.specs.List.{slice_get, list_all, list_any}
use Rattle.std.specs.Str.{bytes_eq}
use Rattle.types.specs.declared.value.ValType.{ValType}
use Rattle.types.specs.declared.value.ValType.TheVariants.{I32}
use Rattle.types.specs.declared.value.Value.{Value}
use Rattle.types.specs.declared.value.Value.TheVariants as values
use Rattle.types.specs.declared.instr.PlainInstr.TheVariants as plain
use Rattle.types.specs.declared.instr.Instr.{Instr}
use Rattle.types.specs.declared.instr.Instr.TheVariants as instrs
use Rattle.types.specs.declared.parts.Limits.{Limits}
use Rattle.types.specs.declared.parts.FuncType.{FuncType}
use Rattle.types.specs.declared.parts.Import.{Import}
use Rattle.types.specs.declared.parts.ImportDesc.{ImportDesc}
use Rattle.types.specs.declared.parts.ImportDesc.TheVariants as imports
use Rattle.types.specs.declared.parts.Export.{Export}
use Rattle.types.specs.declared.parts.ExportDesc.{ExportDesc}
use Rattle.types.specs.declared.parts.ExportDesc.TheVariants as exports
use Rattle.types.specs.declared.parts.Global.{Global}
use Rattle.types.specs.declared.parts.ElementSegment.{ElementSegment}
use Rattle.types.specs.declared.parts.DataSegment.{DataSegment}
use Rattle.types.specs.declared.parts.Parts.{Parts}
use Rattle.types.specs.Values.{type_of}
use Rattle.types.specs.declared.limits.TheConstants.{PAGE_SIZE}
use Rattle.types.specs.Equal.{is_type, has_type}
use Rattle.validate_typing.specs.declared.fault.Fault.{Fault}
use Rattle.validate_typing.specs.declared.fault.Fault.TheVariants as faults
use Rattle.validate_typing.specs.Context.{imported_functions, functions_of, memories_of}
use Rattle.validate_typing.specs.Image.{offset_of, is_shared}

-- A fault where a test fails.
abbrev pub unless : Bool → Fault → Option Fault
unless true fault = None
unless false fault = Some fault

-- The first fault of the items of a list.
abbrev pub first_of : {X : Type 0} → (X → Option Fault) → List X → Option Fault
first_of f [] = None
first_of f (x ∷ xs) = option_or (f x) (first_of f xs)

-- Types.

abbrev pub types_fault : List FuncType → Option Fault
types_fault types = unless (list_all (λ t. nat_le (length t.results) 1) types) faults.MoreThanOne

-- Imports.

abbrev pub spawn_type_fault : Option FuncType → Option Fault
spawn_type_fault None = Some faults.UnknownType
spawn_type_fault (Some t) = unless (has_type t (I32 ∷ []) (I32 ∷ [])) faults.UnknownImport

abbrev pub is_import : List ℕ → List ℕ → Import → Bool
is_import from name i = bytes_eq i.module from && bytes_eq i.name name

abbrev pub import_fault_of : List FuncType → Import → ImportDesc → Option Fault
import_fault_of types i (imports.Func index) =
    option_or (unless (is_import (codes "wasi") (codes "thread-spawn") i) faults.UnknownImport)
    (spawn_type_fault (slice_get types index))
import_fault_of types i (imports.Table l) = Some faults.UnknownImport
import_fault_of types i (imports.Memory l) = unless (is_import (codes "env") (codes "memory") i) faults.UnknownImport
import_fault_of types i (imports.Global g) = Some faults.UnknownImport

abbrev pub import_fault : List FuncType → Import → Option Fault
import_fault types i = import_fault_of types i i.desc

abbrev pub imports_fault : Parts → Option Fault
imports_fault m = first_of (import_fault m.types) m.imports

-- Functions, tables and memories.

abbrev pub functions_fault : Parts → Option Fault
functions_fault m = unless (list_all (λ index. nat_lt index (length m.types)) m.functions) faults.UnknownType

abbrev pub is_ordered_to : ℕ → Option ℕ → Bool
is_ordered_to min None = true
is_ordered_to min (Some max) = nat_le min max

abbrev pub is_ordered : Limits → Bool
is_ordered l = is_ordered_to l.min l.max

abbrev pub tables_fault : List Limits → Option Fault
tables_fault tables =
    option_or (unless (nat_le (length tables) 1) faults.MoreThanOne)
    (unless (list_all (λ l. is_ordered l && not l.shared) tables) faults.Limits)

abbrev pub memory_fault : Limits → Option Fault
memory_fault l = option_or (unless (not (l.shared && is_none l.max)) faults.SharedWithoutMaximum)
    (unless (is_ordered l) faults.Limits)

abbrev pub memories_fault : List Limits → Option Fault
memories_fault memories = option_or (unless (nat_le (length memories) 1) faults.MoreThanOne)
    (first_of memory_fault memories)

-- Constant expressions, and globals.

abbrev pub constant_in : List Instr → Option Value
constant_in (instrs.Plain (plain.I32Const n) ∷ (instrs.End ∷ [])) = Some (values.I32 n)
constant_in (instrs.Plain (plain.I64Const n) ∷ (instrs.End ∷ [])) = Some (values.I64 n)
constant_in _ = None

abbrev pub value_fault : Option Value → ValType → Option Fault
value_fault None t = Some faults.NotConstant
value_fault (Some v) t = unless (is_type (type_of v) t) faults.TypeMismatch

abbrev pub constant_fault : List Instr → ValType → Option Fault
constant_fault code t = value_fault (constant_in code) t

abbrev pub global_fault : Global → Option Fault
global_fault g = constant_fault g.init g.global_type.val_type

-- Exports, with those before them.

abbrev pub desc_fault : Parts → ExportDesc → Option Fault
desc_fault m (exports.Func f) = unless (nat_lt f (length (functions_of m))) faults.UnknownFunction
desc_fault m (exports.Table t) = unless (nat_lt t (length m.tables)) faults.UnknownTable
desc_fault m (exports.Memory k) = unless (nat_lt k (length (memories_of m))) faults.UnknownMemory
desc_fault m (exports.Global g) = unless (nat_lt g (length m.globals)) faults.UnknownGlobal

abbrev pub is_named : List ℕ → Export → Bool
is_named name e = bytes_eq e.name name

abbrev pub export_fault : Parts → List Export → Export → Option Fault
export_fault m before e = option_or (unless (not (list_any (is_named e.name) before)) faults.DuplicateExport)
    (desc_fault m e.desc)

abbrev pub exports_fault : Parts → List Export → List Export → Option Fault
exports_fault m before [] = None
exports_fault m before (e ∷ es) = option_or (export_fault m before e) (exports_fault m (before ++ (e ∷ [])) es)

-- Segments.

abbrev pub element_fault_in : ℕ → Option Limits → ElementSegment → Option Fault
element_fault_in functions None e = Some faults.UnknownTable
element_fault_in functions (Some l) e =
    option_or (constant_fault e.offset I32)
    (option_or (unless (list_all (λ f. nat_lt f functions) e.functions) faults.UnknownFunction)
    (unless (nat_le (offset_of e.offset + length e.functions) l.min) faults.SegmentOutside))

abbrev pub element_fault : Parts → ElementSegment → Option Fault
element_fault m e = element_fault_in (length (functions_of m)) (slice_get m.tables e.table) e

abbrev pub data_fault_in : Option Limits → DataSegment → Option Fault
data_fault_in None d = Some faults.UnknownMemory
data_fault_in (Some l) d =
    option_or (constant_fault d.offset I32)
    (unless (nat_le (offset_of d.offset + length d.bytes) (PAGE_SIZE * l.min)) faults.SegmentOutside)

abbrev pub data_fault : Parts → DataSegment → Option Fault
data_fault m d = data_fault_in (slice_get (memories_of m) d.memory) d

-- Starting threads.

-- The function of the module itself, from 0, that an index stands for, if it is one.
abbrev pub own_index : ℕ → ℕ → ℕ → Option ℕ
own_index imported own f = if nat_le imported f && nat_lt (f - imported) own then Some (f - imported) else None

abbrev pub own_function_of : ℕ → ℕ → ExportDesc → Option ℕ
own_function_of imported own (exports.Func f) = own_index imported own f
own_function_of imported own (exports.Table t) = None
own_function_of imported own (exports.Memory k) = None
own_function_of imported own (exports.Global g) = None

abbrev pub own_function : ℕ → ℕ → Option Export → Option ℕ
own_function imported own None = None
own_function imported own (Some e) = own_function_of imported own e.desc

-- The function of the module itself that is exported by a name.
abbrev pub exported_in : Parts → List ℕ → Option ℕ
exported_in m name = own_function (length (imported_functions m)) (length m.functions) (find (is_named name) m.exports)

abbrev pub type_of_index : List FuncType → Option ℕ → Option FuncType
type_of_index types None = None
type_of_index types (Some index) = slice_get types index

abbrev pub type_of_own : Parts → Option ℕ → Option FuncType
type_of_own m None = None
type_of_own m (Some own) = type_of_index m.types (slice_get m.functions own)

abbrev pub takes_two : Option FuncType → Bool
takes_two None = false
takes_two (Some t) = has_type t (I32 ∷ (I32 ∷ [])) []

-- Whether a function that takes a thread's number and argument is exported by the name of the entry of threads.
abbrev pub has_entry : Parts → Bool
has_entry m = takes_two (type_of_own m (exported_in m (codes "wasi_thread_start")))

abbrev pub threads_fault : Parts → Option Fault
threads_fault m =
    if nat_eq (length (imported_functions m)) 0 then None
    else unless (has_entry m && is_shared (slice_get (memories_of m) 0)) faults.ThreadEntry

abbrev pub start_fault : Option ℕ → Option Fault
start_fault start = unless (is_none start) faults.StartSection

-- All rules outside bodies, in order.
abbrev pub names_fault : Parts → Option Fault
names_fault m =
    option_or (types_fault m.types) (option_or (imports_fault m) (option_or (functions_fault m)
    (option_or (tables_fault m.tables) (option_or (memories_fault (memories_of m)) (first_of global_fault m.globals)))))

abbrev pub uses_fault : Parts → Option Fault
uses_fault m =
    option_or (exports_fault m [] m.exports)
    (option_or (start_fault m.start) (option_or (first_of (element_fault m) m.elements)
    (option_or (first_of (data_fault m) m.data) (threads_fault m))))

abbrev pub fault_outside : Parts → Option Fault
fault_outside m = option_or (names_fault m) (uses_fault m)
