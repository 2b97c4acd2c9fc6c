-- A module has no fault outside its bodies exactly where it keeps the rules.
use Rattle.std.proofs.Common.{◌≡◌, ℕ, ◌≤◌, ◌<◌, List, [], ◌∷◌, length, Bool, true, false, ◌&&◌, not, nat_le, nat_lt}
use Rattle.std.proofs.Common.{Option, Some, None, is_none, IfSome, codes, refl, sym, ◌∙◌, ap, arith}
use Rattle.std.specs.Bool.{Decides}
use Rattle.std.specs.Option.{option_or}
use Rattle.std.specs.List.{All, list_all, slice_get}
use Rattle.std.proofs.lemmas.Bool.Decides.{Decides-and, Decides-by_and, nat_tests}
use Rattle.std.proofs.lemmas.List.Elements.{All-nil, All-cons, All-head, All-tail}
use Rattle.std.proofs.lemmas.Slice.Eq.{bytes_eq-Decides}
use Rattle.types.specs.declared.value.ValType.{ValType}
use Rattle.types.specs.declared.value.ValType.TheVariants.{I32}
use Rattle.types.specs.declared.value.Value.{Value}
use Rattle.types.specs.declared.value.Value.TheVariants as values
use Rattle.types.specs.declared.instr.PlainInstr.TheVariants as plain
use Rattle.types.specs.declared.instr.Instr.{Instr}
use Rattle.types.specs.declared.instr.Instr.TheVariants as instrs
use Rattle.types.specs.declared.parts.Limits.{Limits}
use Rattle.types.specs.declared.parts.FuncType.{FuncType}
use Rattle.types.specs.declared.parts.Import.{Import}
use Rattle.types.specs.declared.parts.ImportDesc.{ImportDesc}
use Rattle.types.specs.declared.parts.ImportDesc.TheVariants as imports
use Rattle.types.specs.declared.parts.Global.{Global}
use Rattle.types.specs.declared.parts.Parts.{Parts}
use Rattle.types.specs.Values.{type_of, const_of}
use Rattle.validate_typing.specs.declared.fault.Fault.{Fault}
use Rattle.validate_typing.specs.declared.fault.Fault.TheVariants as faults
use Rattle.validate_typing.specs.Validity.{IsValidType, IsValidImport, IsValidImportOf, IsValidTable, IsValidMemory, IsConstant, IsValidGlobal}
use Rattle.validate_module_rules.specs.Faults.{unless, first_of, types_fault, spawn_type_fault, is_import}
use Rattle.validate_module_rules.specs.Faults.{import_fault, import_fault_of, imports_fault, functions_fault}
use Rattle.validate_module_rules.specs.Faults.{is_ordered, is_ordered_to, tables_fault, memory_fault, memories_fault}
use Rattle.validate_module_rules.specs.Faults.{constant_in, value_fault, constant_fault, global_fault}
use Rattle.types.proofs.Equal.{Decides-type, Decides-has_type}

-- There is no fault exactly where a rule is kept.
abbrev pub Tells : Option Fault → Type 0 → Type 0
Tells fault P = (fault ≡ None → P) × (P → fault ≡ None)

pub Tells-like : {P : Type 0} {Q : Type 0} (o : Option Fault) → (P → Q) → (Q → P) → Tells o P → Tells o Q
Tells-like o f g t = (λ e. f (t.0 e), λ q. t.1 (g q))

pub Tells-unless : {P : Type 0} (b : Bool) (fault : Fault) → Decides b P → Tells (unless b fault) P
Tells-unless true fault d = (λ _. d.0 refl, λ _. refl)
Tells-unless false fault d = (λ e. cc, λ p. let h = d.1 p in cc)

pub Tells-never : {P : Type 0} (fault : Fault) → (P → ⊥) → Tells (Some fault) P
Tells-never fault n = (λ e. cc, λ p. absurd (n p))

pub Tells-both : {P : Type 0} {Q : Type 0} (a b : Option Fault) → Tells a P → Tells b Q → Tells (option_or a b) (P × Q)
Tells-both None b p q = (λ e. (p.0 refl, q.0 e), λ h. q.1 h.1)
Tells-both (Some f) b p q = (λ e. cc, λ h. let e = p.1 h.0 in cc)

pub Tells-each : {X : Type 0} (f : X → Option Fault) (P : X → Type 0) → ((x : X) → Tells (f x) (P x)) → (xs : List X) → Tells (first_of f xs) (All P xs)
Tells-each f P each [] = (λ _. All-nil P, λ _. refl)
Tells-each f P each (x ∷ xs) =
    Tells-like _ (λ h. All-cons P x xs h.0 h.1) (λ a. (All-head P x xs a, All-tail P x xs a))
    (Tells-both (f x) (first_of f xs) (each x) (Tells-each f P each xs))

pub Decides-leb : (a b : ℕ) → Decides (nat_le a b) (a ≤ b)
Decides-leb a b = (λ h. grind (arith, nat_tests), λ h. grind (arith, nat_tests))

pub Decides-lt : (a b : ℕ) → Decides (nat_lt a b) (a < b)
Decides-lt a b = (λ h. grind (arith, nat_tests), λ h. grind (arith, nat_tests))

pub Decides-all : {X : Type 0} (p : X → Bool) (P : X → Type 0) → ((x : X) → Decides (p x) (P x)) → (xs : List X) → Decides (list_all p xs) (All P xs)
Decides-all p P each xs = Decides-by_and p P (list_all p) each refl (λ _ _. refl) xs

-- types

pub Tells-types : (types : List FuncType) → Tells (types_fault types) (All IsValidType types)
Tells-types types = Tells-unless _ faults.MoreThanOne (Decides-all (λ t. nat_le (length t.results) 1) IsValidType (λ t. Decides-leb (length t.results) 1) types)

-- imports

-- the type of an index is this one
abbrev IsTypedAs : Option FuncType → List ValType → List ValType → Type 0
IsTypedAs found params results = (t : FuncType) × (found ≡ Some t) × (t.params ≡ params) × (t.results ≡ results)

Tells-spawn_type : (found : Option FuncType) → Tells (spawn_type_fault found) (IsTypedAs found (I32 ∷ []) (I32 ∷ []))
Tells-spawn_type None = Tells-never faults.UnknownType (λ h. let e = h.1 in cc)
Tells-spawn_type (Some t) =
    Tells-like _ (λ h. (t, refl, h.0, h.1)) (λ h. let e = h.1 in let p = h.2 in let r = h.3 in (cc, cc))
    (Tells-unless _ faults.UnknownImport (Decides-has_type t (I32 ∷ []) (I32 ∷ [])))

Decides-import : (from name : List ℕ) (i : Import) → Decides (is_import from name i) ((i.module ≡ from) × (i.name ≡ name))
Decides-import from name i = Decides-and _ _ (bytes_eq-Decides i.module from) (bytes_eq-Decides i.name name)

Tells-import_of : (m : Parts) (i : Import) (d : ImportDesc) → Tells (import_fault_of m.types i d) (IsValidImportOf m i.module i.name d)
Tells-import_of m i (imports.Func index) =
    Tells-like _ (λ h. (h.0.0, h.0.1, h.1)) (λ h. ((h.0, h.1), h.2))
    (Tells-both _ _ (Tells-unless _ faults.UnknownImport (Decides-import (codes "wasi") (codes "thread-spawn") i)) (Tells-spawn_type (slice_get m.types index)))
Tells-import_of m i (imports.Table l) = Tells-never faults.UnknownImport (λ h. h)
Tells-import_of m i (imports.Memory l) = Tells-unless _ faults.UnknownImport (Decides-import (codes "env") (codes "memory") i)
Tells-import_of m i (imports.Global g) = Tells-never faults.UnknownImport (λ h. h)

pub Tells-imports : (m : Parts) → Tells (imports_fault m) (All (IsValidImport m) m.imports)
Tells-imports m = Tells-each (import_fault m.types) (IsValidImport m) (λ i. Tells-import_of m i i.desc) m.imports

-- functions, tables and memories

pub Tells-functions : (m : Parts) → Tells (functions_fault m) (All (λ index. index < length m.types) m.functions)
Tells-functions m =
    Tells-unless _ faults.UnknownType (Decides-all (λ index. nat_lt index (length m.types))
    (λ index. index < length m.types) (λ index. Decides-lt index (length m.types)) m.functions)

Decides-ordered : (min : ℕ) (max : Option ℕ) → Decides (is_ordered_to min max) (IfSome max (λ n. min ≤ n))
Decides-ordered min None = (λ _. tt, λ _. refl)
Decides-ordered min (Some max) = Decides-leb min max

Decides-false : (b : Bool) → Decides (not b) (b ≡ false)
Decides-false true = (λ h. cc, λ h. cc)
Decides-false false = (λ _. refl, λ _. refl)

pub Tells-tables : (tables : List Limits) → Tells (tables_fault tables) ((length tables ≤ 1) × All IsValidTable tables)
Tells-tables tables =
    Tells-both _ _ (Tells-unless _ faults.MoreThanOne (Decides-leb (length tables) 1))
    (Tells-unless _ faults.Limits
    (Decides-all (λ l. is_ordered l && not l.shared) IsValidTable (λ l. Decides-and _ _ (Decides-ordered l.min l.max) (Decides-false l.shared)) tables))

Decides-maximum : (shared : Bool) (max : Option ℕ) → Decides (not (shared && is_none max)) (shared ≡ true → (n : ℕ) × (max ≡ Some n))
Decides-maximum false max = (λ _ h. cc, λ _. refl)
Decides-maximum true None = (λ h. cc, λ h. let e = (h refl).1 in cc)
Decides-maximum true (Some n) = (λ _ _. (n, refl), λ _. refl)

Tells-memory : (l : Limits) → Tells (memory_fault l) (IsValidMemory l)
Tells-memory l =
    Tells-like _ (λ h. (h.1, h.0)) (λ h. (h.1, h.0))
    (Tells-both _ _ (Tells-unless _ faults.SharedWithoutMaximum (Decides-maximum l.shared l.max)) (Tells-unless _ faults.Limits (Decides-ordered l.min l.max)))

pub Tells-memories : (memories : List Limits) → Tells (memories_fault memories) ((length memories ≤ 1) × All IsValidMemory memories)
Tells-memories memories =
    Tells-both _ _ (Tells-unless _ faults.MoreThanOne (Decides-leb (length memories) 1)) (Tells-each memory_fault IsValidMemory Tells-memory memories)

-- globals

constant_is : (code : List Instr) (v : Value) → constant_in code ≡ Some v → IsConstant code v
constant_is (instrs.Plain (plain.I32Const n) ∷ (instrs.End ∷ [])) v h =
    ap (λ x. instrs.Plain (const_of x) ∷ (instrs.End ∷ [])) (let e : values.I32 n ≡ v = cc in e)
constant_is (instrs.Plain (plain.I64Const n) ∷ (instrs.End ∷ [])) v h =
    ap (λ x. instrs.Plain (const_of x) ∷ (instrs.End ∷ [])) (let e : values.I64 n ≡ v = cc in e)
constant_is _ v h = cc

constant_at : (code : List Instr) (v : Value) → IsConstant code v → constant_in code ≡ Some v
constant_at code (values.I32 n) h = ap constant_in h
constant_at code (values.I64 n) h = ap constant_in h

Tells-value : (found : Option Value) (t : ValType) → Tells (value_fault found t) ((v : Value) × (found ≡ Some v) × (type_of v ≡ t))
Tells-value None t = Tells-never faults.NotConstant (λ h. let e = h.1 in cc)
Tells-value (Some v) t =
    Tells-like _ (λ h. (v, refl, h)) (λ h. let e = h.1 in let k = h.2 in let w : h.0 ≡ v = cc in sym (ap type_of w) ∙ k)
    (Tells-unless _ faults.TypeMismatch (Decides-type (type_of v) t))

pub Tells-constant : (code : List Instr) (t : ValType) → Tells (constant_fault code t) ((v : Value) × IsConstant code v × (type_of v ≡ t))
Tells-constant code t =
    Tells-like _ (λ h. (h.0, constant_is code h.0 h.1, h.2)) (λ h. (h.0, constant_at code h.0 h.1, h.2)) (Tells-value (constant_in code) t)

pub Tells-globals : (globals : List Global) → Tells (first_of global_fault globals) (All IsValidGlobal globals)
Tells-globals globals = Tells-each global_fault IsValidGlobal (λ g. Tells-constant g.init g.global_type.val_type) globals
