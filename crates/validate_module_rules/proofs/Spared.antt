-- No rule outside bodies is broken for want of memory.
use Rattle.std.proofs.Common.{◌≡◌, ℕ, List, [], ◌∷◌, ◌++◌, length, Bool, true, false, Option, Some, None, cond}
use Rattle.std.proofs.Common.{nat_eq}
use Rattle.std.specs.Option.{option_or}
use Rattle.std.specs.List.{slice_get}
use Rattle.types.specs.declared.value.ValType.{ValType}
use Rattle.types.specs.declared.value.Value.{Value}
use Rattle.types.specs.declared.parts.Limits.{Limits}
use Rattle.types.specs.declared.parts.FuncType.{FuncType}
use Rattle.types.specs.declared.parts.Import.{Import}
use Rattle.types.specs.declared.parts.ImportDesc.{ImportDesc}
use Rattle.types.specs.declared.parts.ImportDesc.TheVariants as imports
use Rattle.types.specs.declared.parts.Export.{Export}
use Rattle.types.specs.declared.parts.ExportDesc.{ExportDesc}
use Rattle.types.specs.declared.parts.ExportDesc.TheVariants as exports
use Rattle.types.specs.declared.parts.ElementSegment.{ElementSegment}
use Rattle.types.specs.declared.parts.DataSegment.{DataSegment}
use Rattle.types.specs.declared.parts.Parts.{Parts}
use Rattle.types.specs.declared.value.ValType.TheVariants.{I32}
use Rattle.validate_typing.specs.declared.fault.Fault.{Fault}
use Rattle.validate_typing.specs.declared.fault.Fault.TheVariants as faults
use Rattle.validate_typing.specs.Context.{functions_of, memories_of, imported_functions}
use Rattle.validate_module_rules.specs.Faults.{unless, first_of, types_fault, spawn_type_fault, import_fault_of, import_fault, imports_fault}
use Rattle.validate_module_rules.specs.Faults.{functions_fault, tables_fault, memory_fault, memories_fault, constant_in, value_fault, constant_fault}
use Rattle.validate_module_rules.specs.Faults.{global_fault, desc_fault, export_fault, exports_fault, element_fault_in, element_fault}
use Rattle.validate_module_rules.specs.Faults.{data_fault_in, data_fault, threads_fault, start_fault, names_fault, uses_fault, fault_outside}

abbrev pub Spares : Option Fault → Type 0
Spares o = o ≡ Some faults.OutOfMemory → ⊥

spares_none : Spares None
spares_none e = cc

spares_or : (a b : Option Fault) → Spares a → Spares b → Spares (option_or a b)
spares_or None b x y = y
spares_or (Some k) b x y = x

spares_unless : (b : Bool) (kind : Fault) → (kind ≡ faults.OutOfMemory → ⊥) → Spares (unless b kind)
spares_unless true kind n e = cc
spares_unless false kind n e = let k : kind ≡ faults.OutOfMemory = cc in n k

spares_first : {X : Type 0} (f : X → Option Fault) → ((x : X) → Spares (f x)) → (xs : List X) → Spares (first_of f xs)
spares_first f h [] = spares_none
spares_first f h (x ∷ xs) = spares_or (f x) (first_of f xs) (h x) (spares_first f h xs)

spares_spawn : (o : Option FuncType) → Spares (spawn_type_fault o)
spares_spawn None = λ e. cc
spares_spawn (Some t) = spares_unless _ faults.UnknownImport (λ e. cc)

spares_desc_of : (types : List FuncType) (i : Import) (d : ImportDesc) → Spares (import_fault_of types i d)
spares_desc_of types i (imports.Func index) =
    spares_or _ (spawn_type_fault (slice_get types index)) (spares_unless _ faults.UnknownImport (λ e. cc)) (spares_spawn (slice_get types index))
spares_desc_of types i (imports.Table l) = λ e. cc
spares_desc_of types i (imports.Memory l) = spares_unless _ faults.UnknownImport (λ e. cc)
spares_desc_of types i (imports.Global g) = λ e. cc

spares_memory : (l : Limits) → Spares (memory_fault l)
spares_memory l = spares_or _ _ (spares_unless _ faults.SharedWithoutMaximum (λ e. cc)) (spares_unless _ faults.Limits (λ e. cc))

spares_value : (o : Option Value) (t : ValType) → Spares (value_fault o t)
spares_value None t = λ e. cc
spares_value (Some v) t = spares_unless _ faults.TypeMismatch (λ e. cc)

spares_desc : (m : Parts) (d : ExportDesc) → Spares (desc_fault m d)
spares_desc m (exports.Func f) = spares_unless _ faults.UnknownFunction (λ e. cc)
spares_desc m (exports.Table t) = spares_unless _ faults.UnknownTable (λ e. cc)
spares_desc m (exports.Memory k) = spares_unless _ faults.UnknownMemory (λ e. cc)
spares_desc m (exports.Global g) = spares_unless _ faults.UnknownGlobal (λ e. cc)

spares_exports : (m : Parts) (earlier es : List Export) → Spares (exports_fault m earlier es)
spares_exports m earlier [] = spares_none
spares_exports m earlier (e ∷ es) =
    spares_or (export_fault m earlier e) (exports_fault m (earlier ++ (e ∷ [])) es)
    (spares_or _ (desc_fault m e.desc) (spares_unless _ faults.DuplicateExport (λ e. cc)) (spares_desc m e.desc)) (spares_exports m (earlier ++ (e ∷ [])) es)

spares_element : (functions : ℕ) (o : Option Limits) (e : ElementSegment) → Spares (element_fault_in functions o e)
spares_element functions None e = λ x. cc
spares_element functions (Some l) e =
    spares_or (constant_fault e.offset I32) _ (spares_value (constant_in e.offset) I32)
    (spares_or _ _ (spares_unless _ faults.UnknownFunction (λ e. cc)) (spares_unless _ faults.SegmentOutside (λ e. cc)))

spares_data : (o : Option Limits) (d : DataSegment) → Spares (data_fault_in o d)
spares_data None d = λ x. cc
spares_data (Some l) d =
    spares_or (constant_fault d.offset I32) _ (spares_value (constant_in d.offset) I32) (spares_unless _ faults.SegmentOutside (λ e. cc))

spares_threads : (none : Bool) (b : Bool) → Spares (cond none None (unless b faults.ThreadEntry))
spares_threads true b = spares_none
spares_threads false b = spares_unless b faults.ThreadEntry (λ e. cc)

spares_names : (m : Parts) → Spares (names_fault m)
spares_names m =
    spares_or (types_fault m.types) _ (spares_unless _ faults.MoreThanOne (λ e. cc))
    (spares_or (imports_fault m) _ (spares_first (import_fault m.types) (λ i. spares_desc_of m.types i i.desc) m.imports)
    (spares_or (functions_fault m) _ (spares_unless _ faults.UnknownType (λ e. cc))
    (spares_or (tables_fault m.tables) _
    (spares_or _ _ (spares_unless _ faults.MoreThanOne (λ e. cc)) (spares_unless _ faults.Limits (λ e. cc)))
    (spares_or (memories_fault (memories_of m)) _
    (spares_or _ _ (spares_unless _ faults.MoreThanOne (λ e. cc)) (spares_first memory_fault spares_memory (memories_of m)))
    (spares_first global_fault (λ g. spares_value (constant_in g.init) g.global_type.val_type) m.globals)))))

spares_uses : (m : Parts) → Spares (uses_fault m)
spares_uses m =
    spares_or (exports_fault m [] m.exports) _ (spares_exports m [] m.exports)
    (spares_or (start_fault m.start) _ (spares_unless _ faults.StartSection (λ e. cc))
    (spares_or (first_of (element_fault m) m.elements) _
    (spares_first (element_fault m) (λ e. spares_element (length (functions_of m)) (slice_get m.tables e.table) e) m.elements)
    (spares_or (first_of (data_fault m) m.data) (threads_fault m)
    (spares_first (data_fault m) (λ d. spares_data (slice_get (memories_of m) d.memory) d) m.data)
    (spares_threads (nat_eq (length (imported_functions m)) 0) _))))

pub outside_spared : (m : Parts) → Spares (fault_outside m)
outside_spared m = spares_or (names_fault m) (uses_fault m) (spares_names m) (spares_uses m)
