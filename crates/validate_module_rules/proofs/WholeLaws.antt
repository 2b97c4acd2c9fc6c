-- A module has no fault outside its bodies exactly where it is valid but for them.
use Rattle.std.proofs.Common.{◌≡◌, ℕ, ◌+◌, ◌*◌, ◌≤◌, ◌<◌, List, [], ◌∷◌, length, Bool, true, false, ◌&&◌, nat_lt}
use Rattle.std.proofs.Common.{nat_eq, Option, Some, None, is_none, codes, refl, sym, ◌∙◌, ap, subst, arith, cond}
use Rattle.std.specs.Bool.{Decides}
use Rattle.std.specs.Option.{option_or}
use Rattle.std.specs.List.{All, slice_get}
use Rattle.std.proofs.lemmas.Bool.Decides.{Decides-and, Decides-eqb}
use Rattle.std.proofs.lemmas.Option.{slice_get_within}
use Rattle.types.specs.declared.value.ValType.TheVariants.{I32}
use Rattle.types.specs.declared.value.Value.{Value}
use Rattle.types.specs.declared.value.Value.TheVariants as values
use Rattle.types.specs.declared.instr.Instr.{Instr}
use Rattle.types.specs.declared.parts.Limits.{Limits}
use Rattle.types.specs.declared.parts.FuncType.{FuncType}
use Rattle.types.specs.declared.parts.ElementSegment.{ElementSegment}
use Rattle.types.specs.declared.parts.DataSegment.{DataSegment}
use Rattle.types.specs.declared.parts.Parts.{Parts}
use Rattle.types.specs.Values.{type_of}
use Rattle.types.specs.declared.limits.TheConstants.{PAGE_SIZE}
use Rattle.validate_typing.specs.declared.fault.Fault.{Fault}
use Rattle.validate_typing.specs.declared.fault.Fault.TheVariants as faults
use Rattle.validate_typing.specs.Context.{imported_functions, functions_of, memories_of}
use Rattle.validate_typing.specs.Image.{offset_of, is_shared}
use Rattle.validate_typing.specs.Validity.{IsValid, IsValidType, IsValidImport, IsValidTable, IsValidMemory}
use Rattle.validate_typing.specs.Validity.{IsValidGlobal, IsConstant, IsThere, HasDistinctNames, IsValidElement}
use Rattle.validate_typing.specs.Validity.{IsValidData, IsThreaded, HasFunctionType}
use Rattle.validate_module_rules.specs.Faults.{first_of, constant_fault, element_fault_in, element_fault}
use Rattle.validate_module_rules.specs.Faults.{data_fault_in, data_fault, exported_in, type_of_index, type_of_own}
use Rattle.validate_module_rules.specs.Faults.{takes_two, threads_fault, start_fault, names_fault}
use Rattle.validate_module_rules.specs.Faults.{uses_fault, fault_outside}
use Rattle.validate_module_rules.specs.Exported.{IsExported, HasValidBodies}
use Rattle.types.proofs.Equal.{Decides-has_type}
use Rattle.validate_module_rules.proofs.Rules.{Tells, Tells-like, Tells-unless, Tells-never, Tells-both, Tells-each}
use Rattle.validate_module_rules.proofs.Rules.{Decides-leb, Decides-lt, Decides-all, Tells-types}
use Rattle.validate_module_rules.proofs.Rules.{Tells-imports, Tells-functions, Tells-tables, Tells-memories}
use Rattle.validate_module_rules.proofs.Rules.{Tells-constant, Tells-globals}
use Rattle.validate_module_rules.proofs.ExportLaws.{Tells-exports, exported_from, exported_is}

-- segments

i32_constant : (code : List Instr) → (v : Value) × IsConstant code v × (type_of v ≡ I32) → IsConstant code (values.I32 (offset_of code))
i32_constant code c = by c.0 c.1 c.2
  where
    by : (v : Value) → IsConstant code v → type_of v ≡ I32 → IsConstant code (values.I32 (offset_of code))
    by (values.I32 n) k t = let e : offset_of code ≡ n = ap offset_of k in subst (λ x. IsConstant code (values.I32 x)) (sym e) k
    by (values.I64 n) k t = let x : ⊥ = cc in absurd x

Tells-i32 : (code : List Instr) → Tells (constant_fault code I32) (IsConstant code (values.I32 (offset_of code)))
Tells-i32 code = Tells-like _ (i32_constant code) (λ h. (values.I32 (offset_of code), h, refl)) (Tells-constant code I32)

-- an element segment fits what its index finds
abbrev IsElementIn : ℕ → Option Limits → ElementSegment → Type 0
IsElementIn functions found e =
    (l : Limits) × (offset : ℕ) × (found ≡ Some l) × IsConstant e.offset (values.I32 offset)
    × All (λ f. f < functions) e.functions × (offset + length e.functions ≤ l.min)

moved : (code : List Instr) (n len size : ℕ) → IsConstant code (values.I32 n) → n + len ≤ size → offset_of code + len ≤ size
moved code n len size c h = let e : offset_of code ≡ n = ap offset_of c in omega arith

same_offset : (code : List Instr) (n : ℕ) → IsConstant code (values.I32 n) → IsConstant code (values.I32 (offset_of code))
same_offset code n c = i32_constant code (values.I32 n, c, refl)

Tells-element_in : (functions : ℕ) (found : Option Limits) (e : ElementSegment) → Tells (element_fault_in functions found e) (IsElementIn functions found e)
Tells-element_in functions None e = Tells-never faults.UnknownTable (λ h. let x = h.2 in cc)
Tells-element_in functions (Some l) e =
    Tells-like _ (λ h. (l, offset_of e.offset, refl, h.0, h.1.0, h.1.1))
    (λ h. let x = h.2 in let same : h.0 ≡ l = cc in (
      same_offset e.offset h.1 h.3,
      (
        h.4,
        subst (λ (k : Limits). offset_of e.offset + length e.functions ≤ k.min) same
            (moved e.offset h.1 (length e.functions) h.0.min h.3 h.5),
      ),
    ))
    (Tells-both _ _ (Tells-i32 e.offset)
    (Tells-both _ _ (Tells-unless _ faults.UnknownFunction (Decides-all (λ f. nat_lt f functions) (λ f. f < functions)
    (λ f. Decides-lt f functions) e.functions))
    (Tells-unless _ faults.SegmentOutside (Decides-leb (offset_of e.offset + length e.functions) l.min))))

Tells-elements : (m : Parts) → Tells (first_of (element_fault m) m.elements) (All (IsValidElement m) m.elements)
Tells-elements m = Tells-each (element_fault m) (IsValidElement m) (λ e. Tells-element_in (length (functions_of m)) (slice_get m.tables e.table) e) m.elements

abbrev IsDataIn : Option Limits → DataSegment → Type 0
IsDataIn found d = (l : Limits) × (offset : ℕ) × (found ≡ Some l) × IsConstant d.offset (values.I32 offset) × (offset + length d.bytes ≤ PAGE_SIZE * l.min)

Tells-data_in : (found : Option Limits) (d : DataSegment) → Tells (data_fault_in found d) (IsDataIn found d)
Tells-data_in None d = Tells-never faults.UnknownMemory (λ h. let x = h.2 in cc)
Tells-data_in (Some l) d =
    Tells-like _ (λ h. (l, offset_of d.offset, refl, h.0, h.1))
    (λ h. let x = h.2 in let same : h.0 ≡ l = cc in (
      same_offset d.offset h.1 h.3,
      subst (λ (k : Limits). offset_of d.offset + length d.bytes ≤ PAGE_SIZE * k.min) same
          (moved d.offset h.1 (length d.bytes) (PAGE_SIZE * h.0.min) h.3 h.4),
    ))
    (Tells-both _ _ (Tells-i32 d.offset) (Tells-unless _ faults.SegmentOutside (Decides-leb (offset_of d.offset + length d.bytes) (PAGE_SIZE * l.min))))

Tells-data : (m : Parts) → Tells (first_of (data_fault m) m.data) (All (IsValidData m) m.data)
Tells-data m = Tells-each (data_fault m) (IsValidData m) (λ d. Tells-data_in (slice_get (memories_of m) d.memory) d) m.data

-- starting threads

record IsEntry (m : Parts) (found : Option ℕ) : Type 0 where
  own : ℕ
  index : ℕ
  is : found ≡ Some own
  function : slice_get m.functions own ≡ Some index
  takes : HasFunctionType m index (I32 ∷ (I32 ∷ [])) []

entry_from : (m : Parts) (found : Option ℕ) → takes_two (type_of_own m found) ≡ true → IsEntry m found
entry_from m None h = let x : ⊥ = cc in absurd x
entry_from m (Some own) h = by (slice_get m.functions own) refl h
  where
    typed : (index : ℕ) (t : Option FuncType) → slice_get m.functions own ≡ Some index → slice_get m.types index ≡ t → takes_two t ≡ true → IsEntry m (Some own)
    typed index None p q r = let x : ⊥ = cc in absurd x
    typed index (Some t) p q r =
        let w = (Decides-has_type t (I32 ∷ (I32 ∷ [])) []).0 r in
        record { own = own; index = index; is = refl; function = p; takes = (t, q, w.0, w.1) }

    by : (f : Option ℕ) → slice_get m.functions own ≡ f → takes_two (type_of_index m.types f) ≡ true → IsEntry m (Some own)
    by None p r = let x : ⊥ = cc in absurd x
    by (Some index) p r = typed index (slice_get m.types index) p refl r

entry_is : (m : Parts) (own index : ℕ) → slice_get m.functions own ≡ Some index
    → HasFunctionType m index (I32 ∷ (I32 ∷ [])) [] → takes_two (type_of_own m (Some own)) ≡ true
entry_is m own index f h =
    ap (λ (x : Option ℕ). takes_two (type_of_index m.types x)) f ∙ (ap takes_two h.1 ∙ (Decides-has_type h.0 (I32 ∷ (I32 ∷ [])) []).1 (h.2, h.3))

shared_from : (found : Option Limits) → is_shared found ≡ true → (l : Limits) × (found ≡ Some l) × (l.shared ≡ true)
shared_from None h = let x : ⊥ = cc in absurd x
shared_from (Some l) h = (l, refl, h)

shared_is : (found : Option Limits) (l : Limits) → found ≡ Some l → l.shared ≡ true → is_shared found ≡ true
shared_is found l f h = ap is_shared f ∙ h

threaded_from : (m : Parts) (e : IsEntry m (exported_in m (codes "wasi_thread_start")))
    (s : (l : Limits) × (slice_get (memories_of m) 0 ≡ Some l) × (l.shared ≡ true)) → IsThreaded m
threaded_from m e s =
    let x = exported_from m (codes "wasi_thread_start") e.own e.is in
    record {
      place = x.place;
      entry = x.entry;
      own = e.own;
      index = e.index;
      memory = s.0;
      exported = x.exported;
      name = x.named;
      desc = x.desc;
      function = e.function;
      takes_two = e.takes;
      has_memory = s.1;
      shared = s.2;
    }

and_both : (a b : Bool) → a ≡ true → b ≡ true → (a && b) ≡ true
and_both true true p q = refl
and_both true false p q = q
and_both false b p q = p

Decides-threaded : (m : Parts) → HasDistinctNames m.exports →
    Decides (takes_two (type_of_own m (exported_in m (codes "wasi_thread_start"))) && is_shared (slice_get (memories_of m) 0)) (IsThreaded m)
Decides-threaded m d = (
  λ h. let w = (Decides-and (takes_two (type_of_own m (exported_in m (codes "wasi_thread_start"))))
      (is_shared (slice_get (memories_of m) 0)) (λ p. p, λ p. p) (λ p. p, λ p. p)).0 h in
      threaded_from m (entry_from m (exported_in m (codes "wasi_thread_start")) w.0) (shared_from (slice_get (memories_of m) 0) w.1),
  λ t.
      let x : IsExported m (codes "wasi_thread_start") t.own =
      record {
        place = t.place;
        entry = t.entry;
        exported = t.exported;
        named = t.name;
        desc = t.desc;
        function = slice_get_within m.functions t.own t.index t.function;
      } in
      let is = exported_is m (codes "wasi_thread_start") t.own d x in
      and_both _ _ (ap (λ (o : Option ℕ). takes_two (type_of_own m o)) is
      ∙ entry_is m t.own t.index t.function t.takes_two)
      (shared_is (slice_get (memories_of m) 0) t.memory t.has_memory t.shared),
)

Tells-if : {P : Type 0} {Q : Type 0} (b : Bool) (o : Option Fault) → Decides b P → Tells o Q → Tells (cond b None o) ((P → ⊥) → Q)
Tells-if true o d t = (λ _ n. absurd (n (d.0 refl)), λ _. refl)
Tells-if false o d t = (λ e _. t.0 e, λ h. t.1 (h (λ p. let e = d.1 p in cc)))

Tells-threads : (m : Parts) → HasDistinctNames m.exports → Tells (threads_fault m) (0 < length (imported_functions m) → IsThreaded m)
Tells-threads m d =
    Tells-like _ (λ h l. h (λ e. omega arith)) (λ h n. h (positive (length (imported_functions m)) n))
    (Tells-if (nat_eq (length (imported_functions m)) 0) _ (Decides-eqb (length (imported_functions m)) 0)
    (Tells-unless _ faults.ThreadEntry (Decides-threaded m d)))
  where
    positive : (n : ℕ) → (n ≡ 0 → ⊥) → 0 < n
    positive n h = omega (arith, h)

Decides-none : (start : Option ℕ) → Decides (is_none start) (start ≡ None)
Decides-none None = (λ _. refl, λ _. refl)
Decides-none (Some f) = (λ h. cc, λ h. cc)

Tells-start : (start : Option ℕ) → Tells (start_fault start) (start ≡ None)
Tells-start start = Tells-unless _ faults.StartSection (Decides-none start)

-- a rule that rests on one before it
Tells-then : {P : Type 0} {Q : Type 0} (a b : Option Fault) → Tells a P → (P → Tells b Q) → Tells (option_or a b) (P × Q)
Tells-then None b p q = (λ e. let h = p.0 refl in (h, (q h).0 e), λ h. (q h.0).1 h.1)
Tells-then (Some f) b p q = (λ e. cc, λ h. let e = p.1 h.0 in cc)

-- the rules of each half, in order
abbrev KeepsNames : Parts → Type 0
KeepsNames m =
    All IsValidType m.types × (All (IsValidImport m) m.imports × (All (λ index. index < length m.types) m.functions ×
    (((length m.tables ≤ 1) × All IsValidTable m.tables) × (((length (memories_of m) ≤ 1) × All IsValidMemory (memories_of m)) × All IsValidGlobal m.globals))))

abbrev KeepsUses : Parts → Type 0
KeepsUses m =
    (HasDistinctNames m.exports × All (λ e. IsThere m e.desc) m.exports) × ((m.start ≡ None) × (All (IsValidElement m) m.elements ×
    (All (IsValidData m) m.data × (0 < length (imported_functions m) → IsThreaded m))))

Tells-names : (m : Parts) → Tells (names_fault m) (KeepsNames m)
Tells-names m =
    Tells-both _ _ (Tells-types m.types) (Tells-both _ _ (Tells-imports m) (Tells-both _ _ (Tells-functions m)
    (Tells-both _ _ (Tells-tables m.tables) (Tells-both _ _ (Tells-memories (memories_of m)) (Tells-globals m.globals)))))

Tells-uses : (m : Parts) → Tells (uses_fault m) (KeepsUses m)
Tells-uses m =
    Tells-then _ _ (Tells-exports m) (λ e. Tells-both _ _ (Tells-start m.start) (Tells-both _ _ (Tells-elements m)
    (Tells-both _ _ (Tells-data m) (Tells-threads m e.0))))

-- each function has a type that is there, with one result at most
pub types_kept : (m : Parts) → fault_outside m ≡ None → All IsValidType m.types × All (λ index. index < length m.types) m.functions
types_kept m h = let n = ((Tells-both (names_fault m) (uses_fault m) (Tells-names m) (Tells-uses m)).0 h).0 in (n.0, n.1.1.0)

pub valid_with_bodies : (m : Parts) → fault_outside m ≡ None → HasValidBodies m → IsValid m
valid_with_bodies m h b =
    let w = (Tells-both (names_fault m) (uses_fault m) (Tells-names m) (Tells-uses m)).0 h in
    let n = w.0 in
    let u = w.1 in
    record {
      types = n.0;
      imports = n.1.0;
      function_types = n.1.1.0;
      one_table = n.1.1.1.0.0;
      tables = n.1.1.1.0.1;
      one_memory = n.1.1.1.1.0.0;
      memories = n.1.1.1.1.0.1;
      globals = n.1.1.1.1.1;
      export_names = u.0.0;
      exports = u.0.1;
      start = u.1.0;
      elements = u.1.1.0;
      data_segments = u.1.1.1.0;
      threads = u.1.1.1.1;
      functions = b;
    }

pub no_fault : (m : Parts) → IsValid m → fault_outside m ≡ None
no_fault m v =
    (Tells-both (names_fault m) (uses_fault m) (Tells-names m) (Tells-uses m)).1 (
      (v.types, (v.imports, (v.function_types, ((v.one_table, v.tables), ((v.one_memory, v.memories), v.globals))))),
      ((v.export_names, v.exports), (v.start, (v.elements, (v.data_segments, v.threads)))),
    )
