-- What bytes spell keeps the limits and nests: it is a module.
use Rattle.std.proofs.Common.{◌≡◌, ℕ, zero, suc, ◌-◌, ◌<◌, ◌≤◌, ◌⊎◌, inl, inr, List, [], ◌∷◌, length, length-append}
use Rattle.std.proofs.Common.{replicate, Some, None, IfSome, sym, ap, subst, arith}
use Rattle.std.specs.List.{All, zip, slice_get, slice_index_or}
use Rattle.std.proofs.lemmas.List.{length-replicate}
use Rattle.std.proofs.lemmas.List.Elements.{All-nil, All-cons}
use Rattle.std.proofs.lemmas.List.Sums.{count_by-le-length}
use Rattle.std.proofs.lemmas.Option.{slice_get_cases}
use Rattle.binary_wire.specs.Grammar.{Spelling, IsU32, IsItems, IsVector}
use Rattle.types.specs.declared.value.ValType.{ValType}
use Rattle.types.specs.declared.parts.Limits.{Limits}
use Rattle.types.specs.declared.parts.FuncType.{FuncType}
use Rattle.types.specs.declared.parts.Import.{Import}
use Rattle.types.specs.declared.parts.ImportDesc.{ImportDesc}
use Rattle.types.specs.declared.parts.Global.{Global}
use Rattle.types.specs.declared.parts.ElementSegment.{ElementSegment}
use Rattle.types.specs.declared.parts.DataSegment.{DataSegment}
use Rattle.types.specs.declared.parts.Body.{Body}
use Rattle.types.specs.declared.parts.Parts.{Parts}
use Rattle.types.specs.Within.{IsTypeWithin, IsTableWithin, IsMemoryWithin, IsDescWithin, IsBodyWithin, IsWithinLimits, is_func, param_count}
use Rattle.types.specs.Nesting.{IsExpression}
use Rattle.types.specs.Modules.{IsModule}
use Rattle.types.specs.declared.limits.TheConstants.{MOST_PAGES, MOST_ITEMS, MOST_FUNCTIONS, MOST_ELEMENTS, MOST_LOCALS}
use Rattle.binary.specs.declared.kinds.ExternalKind.{ExternalKind}
use Rattle.binary.specs.declared.kinds.ExternalKind.TheVariants as kinds
use Rattle.binary.specs.declared.kinds.LimitsFlag.{LimitsFlag}
use Rattle.binary.specs.declared.kinds.LimitsFlag.TheVariants as flags
use Rattle.binary.specs.Counts.{function_room}
use Rattle.binary.specs.Grammar.{IsLimitsAfter, IsMemory, IsTable, IsFuncType, IsGlobal, IsDescribed, IsImport}
use Rattle.binary.specs.Grammar.{IsExport, IsElement, IsData, IsGroups, IsBody, AreBodies, IsCodeSection}
use Rattle.binary.specs.Grammar.{IsSectionHere, IsSection, IsModuleText}
use Rattle.binary.proofs.Nested.{nested}

-- ---- sections

items_all : {A : Type 0} (P : Spelling A) (Q : A → Type 0)
    → ((bytes : List ℕ) (x : A) (rest : List ℕ) → P bytes x rest → Q x)
    → (bytes : List ℕ) (xs : List A) (rest : List ℕ) → IsItems P bytes xs rest → All Q xs
items_all P Q each bytes [] rest h = All-nil Q
items_all P Q each bytes (x ∷ xs) rest h = All-cons Q x xs (each bytes x h.0 h.1) (items_all P Q each h.0 xs rest h.2)

here_all : {A : Type 0} (id limit : ℕ) (P : Spelling A) (Q : A → Type 0)
    → ((bytes : List ℕ) (x : A) (rest : List ℕ) → P bytes x rest → Q x)
    → (start : List ℕ) (xs : List A) (rest : List ℕ)
    → IsSectionHere id [] (IsVector limit P) start xs rest → (length xs ≤ limit) × All Q xs
here_all {A} id limit P Q each [] xs rest h = subst (λ (ys : List A). (length ys ≤ limit) × All Q ys) (sym h.0) (omega arith, All-nil Q)
here_all {A} id limit P Q each (b ∷ bytes) xs rest (inl h) = (h.1.2.1.1, items_all P Q each h.1.2.0 xs [] h.1.2.2)
here_all {A} id limit P Q each (b ∷ bytes) xs rest (inr h) = subst (λ (ys : List A). (length ys ≤ limit) × All Q ys) (sym h.1) (omega arith, All-nil Q)

section_all : {A : Type 0} (id limit : ℕ) (P : Spelling A) (Q : A → Type 0)
    → ((bytes : List ℕ) (x : A) (rest : List ℕ) → P bytes x rest → Q x)
    → (bytes : List ℕ) (xs : List A) (rest : List ℕ)
    → IsSection id limit P bytes xs rest → (length xs ≤ limit) × All Q xs
section_all id limit P Q each bytes xs rest h = here_all id limit P Q each h.1 xs rest h.3

few : {A : Type 0} (id limit : ℕ) (P : Spelling A) (bytes : List ℕ) (xs : List A) (rest : List ℕ) → IsSection id limit P bytes xs rest → length xs ≤ limit
few {A} id limit P bytes xs rest h = (section_all id limit P (λ x. Unit {0}) (λ bytes x rest h. tt) bytes xs rest h).0

-- ---- items

type_within : (bytes : List ℕ) (t : FuncType) (rest : List ℕ) → IsFuncType bytes t rest → IsTypeWithin t
type_within bytes t rest h = (h.3.1.1, h.4.1.1)

abbrev WithinBoth : ℕ → ℕ → Limits → Type 0
WithinBoth most_min most_max l = (l.min ≤ most_min) × IfSome l.max (λ m. m ≤ most_max)

limits_within : (most_min most_max : ℕ) (flag : LimitsFlag) (bytes : List ℕ) (l : Limits) (rest : List ℕ)
    → IsLimitsAfter most_min most_max flag bytes l rest → WithinBoth most_min most_max l
limits_within most_min most_max flags.Min bytes l rest h = subst (WithinBoth most_min most_max) (sym h.2) (h.1.1, tt)
limits_within most_min most_max flags.MinMax bytes l rest h = subst (WithinBoth most_min most_max) (sym h.3.2) (h.2.1, h.3.1.1)
limits_within most_min most_max flags.SharedMinMax bytes l rest h = subst (WithinBoth most_min most_max) (sym h.3.2) (h.2.1, h.3.1.1)

memory_within : (bytes : List ℕ) (l : Limits) (rest : List ℕ) → IsMemory bytes l rest → IsMemoryWithin l
memory_within bytes l rest h = limits_within MOST_PAGES MOST_PAGES h.0 h.1 l rest h.3

table_within : (bytes : List ℕ) (l : Limits) (rest : List ℕ) → IsTable bytes l rest → IsTableWithin l
table_within bytes l rest h = (limits_within MOST_ELEMENTS 0xffff_ffff h.2.0 h.2.1 l rest h.2.3).0

described_within : (kind : ExternalKind) (bytes : List ℕ) (d : ImportDesc) (rest : List ℕ) → IsDescribed kind bytes d rest → IsDescWithin d
described_within kinds.Func bytes d rest h = subst IsDescWithin (sym h.2) tt
described_within kinds.Table bytes d rest h = subst IsDescWithin (sym h.2) (table_within bytes h.0 rest h.1)
described_within kinds.Memory bytes d rest h = subst IsDescWithin (sym h.2) (memory_within bytes h.0 rest h.1)
described_within kinds.Global bytes d rest h = subst IsDescWithin (sym h.2) tt

import_within : (bytes : List ℕ) (i : Import) (rest : List ℕ) → IsImport bytes i rest → IsDescWithin i.desc
import_within bytes i rest h = described_within h.4.0 h.4.1 i.desc rest h.4.3

global_nested : (bytes : List ℕ) (g : Global) (rest : List ℕ) → IsGlobal bytes g rest → IsExpression g.init
global_nested bytes g rest h = nested h.0 g.init rest h.2

element_within : (bytes : List ℕ) (e : ElementSegment) (rest : List ℕ) → IsElement bytes e rest → length e.functions ≤ MOST_FUNCTIONS
element_within bytes e rest h = h.4.1.1

element_nested : (bytes : List ℕ) (e : ElementSegment) (rest : List ℕ) → IsElement bytes e rest → IsExpression e.offset
element_nested bytes e rest h = nested h.0 e.offset h.1 h.3

data_nested : (bytes : List ℕ) (d : DataSegment) (rest : List ℕ) → IsData bytes d rest → IsExpression d.offset
data_nested bytes d rest h = nested h.0 d.offset h.1 h.3

-- ---- bodies

groups_within : (count room : ℕ) (bytes : List ℕ) (locals : List ValType) (rest : List ℕ) → IsGroups count room bytes locals rest → length locals ≤ room
groups_within zero room bytes locals rest h = omega (arith, ap length h.0)
groups_within (suc count) room bytes locals rest h =
    omega (
      arith,
      ap length h.3.3.2,
      length-append (replicate h.0 h.3.0) h.3.3.0,
      length-replicate h.0 h.3.0,
      h.2.1,
      groups_within count (room - h.0) h.3.1 h.3.3.0 rest h.3.3.1,
    )

params_within : (types : List FuncType) (i : ℕ) → All IsTypeWithin types
    → (((x : FuncType) × (i < length types) × (slice_get types i ≡ Some x) × (slice_index_or types i x ≡ x))
    ⊎ ((length types ≤ i) × (slice_get types i ≡ None))) → param_count types i ≤ MOST_LOCALS
params_within types i all (inl c) = rw c.2 ((subst IsTypeWithin c.3 (all i c.0 c.1)).0)
params_within types i all (inr c) = rw c.1 (omega arith)

body_within : (types : List FuncType) (f : ℕ) (bytes : List ℕ) (b : Body) (rest : List ℕ) → All IsTypeWithin types
    → IsBody (param_count types f) bytes b rest → IsBodyWithin types f b
body_within types f bytes b rest all h =
    let locals = h.2.1 in
    omega (
      arith,
      params_within types f all (slice_get_cases types f).1,
      groups_within locals.0 (MOST_LOCALS - param_count types f) locals.1 b.locals h.2.0 locals.3,
    )

abbrev AreWithin : List FuncType → List ℕ → List Body → Type 0
AreWithin types functions bodies = All (λ f. IsBodyWithin types f.0 f.1) (zip functions bodies) × All (λ b. IsExpression b.code) bodies

bodies_within : (types : List FuncType) → All IsTypeWithin types
    → (functions bytes : List ℕ) (bodies : List Body) (rest : List ℕ) → AreBodies types functions bytes bodies rest
    → AreWithin types functions bodies
bodies_within types all [] bytes [] rest h = (All-nil _, All-nil _)
bodies_within types all [] bytes (b ∷ bodies) rest h = absurd h
bodies_within types all (f ∷ functions) bytes [] rest h = absurd h
bodies_within types all (f ∷ functions) bytes (b ∷ bodies) rest h =
    let more = bodies_within types all functions h.0 bodies rest h.2 in (
      All-cons (λ p. IsBodyWithin types p.0 p.1) (f, b) (zip functions bodies) (body_within types f bytes b h.0 all h.1) more.0,
      All-cons (λ b. IsExpression b.code) b bodies (nested h.1.2.0 b.code [] h.1.2.2) more.1,
    )

no_bodies : (types : List FuncType) (functions : List ℕ) → AreWithin types functions []
no_bodies types [] = (All-nil _, All-nil _)
no_bodies types (f ∷ functions) = (All-nil _, All-nil _)

here_bodies : (types : List FuncType) (functions : List ℕ) → All IsTypeWithin types
    → (start : List ℕ) (bodies : List Body) (rest : List ℕ)
    → IsSectionHere 10 [] (IsCodeSection types functions) start bodies rest → AreWithin types functions bodies
here_bodies types functions all [] bodies rest h = subst (AreWithin types functions) (sym h.0) (no_bodies types functions)
here_bodies types functions all (b ∷ bytes) bodies rest (inl h) = bodies_within types all functions h.1.2.0 bodies [] h.1.2.2
here_bodies types functions all (b ∷ bytes) bodies rest (inr h) = subst (AreWithin types functions) (sym h.1) (no_bodies types functions)

-- ---- the module

limits_of : (bytes : List ℕ) (m : Parts) → IsModuleText bytes m → AreWithin m.types m.functions m.bodies → IsWithinLimits m
limits_of bytes m h bodies =
    let types = section_all 1 MOST_ITEMS IsFuncType IsTypeWithin type_within h.before_types m.types h.before_imports h.types in
    let imports = section_all 2 MOST_ITEMS IsImport (λ i. IsDescWithin i.desc) import_within h.before_imports m.imports h.before_functions h.imports in
    let tables = section_all 4 MOST_ITEMS IsTable IsTableWithin table_within h.before_tables m.tables h.before_memories h.tables in
    let memories = section_all 5 MOST_ITEMS IsMemory IsMemoryWithin memory_within h.before_memories m.memories h.before_globals h.memories in
    let elements = section_all 9 MOST_ITEMS IsElement (λ e. length e.functions ≤ MOST_FUNCTIONS) element_within
    h.before_elements m.elements h.before_bodies h.elements in
    let own = few 3 (function_room m.imports) IsU32 h.before_functions m.functions h.before_tables h.functions in
    record {
      types = types.0;
      imports = imports.0;
      functions = omega (arith, own, imports.0, count_by-le-length (λ i. is_func i.desc) m.imports);
      tables = tables.0;
      memories = memories.0;
      globals = few 6 MOST_ITEMS IsGlobal h.before_globals m.globals h.before_exports h.globals;
      exports = few 7 MOST_ITEMS IsExport h.before_exports m.exports h.before_start h.exports;
      elements = elements.0;
      data_segments = few 11 MOST_ITEMS IsData h.before_data m.«data» h.before_end h.data_segments;
      size = omega (arith, h.counted, h.size);
      each_type = types.1;
      each_import = imports.1;
      each_table = tables.1;
      each_memory = memories.1;
      each_element = elements.1;
      each_body = bodies.0;
    }

-- What bytes spell is a module.
pub is_whole : (bytes : List ℕ) (m : Parts) → IsModuleText bytes m → IsModule m
is_whole bytes m h =
    let types = section_all 1 MOST_ITEMS IsFuncType IsTypeWithin type_within h.before_types m.types h.before_imports h.types in
    let bodies = here_bodies m.types m.functions types.1 h.bodies.1 m.bodies h.before_data h.bodies.3 in
    record {
      limits = limits_of bytes m h bodies;
      bodies = h.counts;
      initial_values = (section_all 6 MOST_ITEMS IsGlobal (λ g. IsExpression g.init) global_nested h.before_globals m.globals h.before_exports h.globals).1;
      element_offsets = (section_all 9 MOST_ITEMS IsElement (λ e. IsExpression e.offset) element_nested
          h.before_elements m.elements h.before_bodies h.elements).1;
      data_offsets = (section_all 11 MOST_ITEMS IsData (λ d. IsExpression d.offset) data_nested h.before_data m.«data» h.before_end h.data_segments).1;
      code = bodies.1;
    }
