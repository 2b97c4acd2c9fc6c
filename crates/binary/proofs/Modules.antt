-- The law of modules, and what a reader answers by it.
use Rattle.std.proofs.Common.{◌≡◌, ℕ, ◌≤◌, cond, eqb, ltb, List, [], ◌∷◌, length, None, Result, Ok, Err, refl, sym, ap, subst, ◌∙◌, arith}
use Rattle.std.specs.Prelude.{IfOk, MatchResult}
use Rattle.std.proofs.lemmas.Bool.{eqb-true, eq-eqb, ltb-false, le-ltb}
use Rattle.binary_wire.specs.declared.bounds.Bounds.{Bounds}
use Rattle.binary_wire.specs.declared.fault.Fault.TheVariants as faults
use Rattle.binary_wire.specs.declared.fault.Refusal.{Refusal}
use Rattle.binary_wire.specs.declared.fault.ReadFault.{ReadFault}
use Rattle.binary_wire.specs.declared.fault.ReadFault.TheVariants.{OutOfMemory, Malformed}
use Rattle.binary_wire.specs.Faults.{refusal, refused, input}
use Rattle.binary_wire.specs.Reading.{◌>>=◌, GivesInMemory, Fails, Refuses, u32_at}
use Rattle.binary_wire.specs.Grammar.{Spelling, IsU32}
use Rattle.binary_wire.proofs.Laws.{Law, good, bad, bind_case, one_case, take_is, good_is, when_ok, unless_ok, u32_law}
use Rattle.types.specs.declared.parts.Parts.{Parts}
use Rattle.types.specs.declared.parts.Import.{Import}
use Rattle.types.specs.declared.parts.FuncType.{FuncType}
use Rattle.types.specs.declared.limits.TheConstants.{MOST_MODULE_BYTES, MOST_ITEMS}
use Rattle.binary.specs.declared.parts.Signatures.{Signatures}
use Rattle.binary.specs.declared.parts.Stores.{Stores}
use Rattle.binary.specs.declared.parts.Contents.{Contents}
use Rattle.binary.specs.Counts.{function_room}
use Rattle.binary.specs.Grammar.{IsFuncType, IsImport, IsTable, IsMemory, IsGlobal, IsExport, IsStartFunction, IsElement}
use Rattle.binary.specs.Grammar.{IsData, IsCodeSection, IsSection, IsSectionPart, IsModuleText}
use Rattle.binary.specs.Reading.{func_type_at, import_at, table_at, memory_at, global_at, export_at, element_at}
use Rattle.binary.specs.Reading.{data_at, section_at, start_at, code_at, customs_at, finish_at, opening_at, signatures_at}
use Rattle.binary.specs.Reading.{stores_at, contents_at, last_at, sections_at, parts_of, module_at}
use Rattle.binary.proofs.Laws.{func_type_law, import_law, table_law, memory_law, global_law, export_law, element_law, data_law}
use Rattle.binary.proofs.SectionLaws.{section_law, start_law, code_law, customs_take, customs_again, opening_takes, opening_again}

types_law : Law (IsSection 1 MOST_ITEMS IsFuncType) (section_at 1 MOST_ITEMS func_type_at)
types_law = section_law 1 MOST_ITEMS IsFuncType func_type_at func_type_law

imports_law : Law (IsSection 2 MOST_ITEMS IsImport) (section_at 2 MOST_ITEMS import_at)
imports_law = section_law 2 MOST_ITEMS IsImport import_at import_law

functions_law : (imports : List Import) → Law (IsSection 3 (function_room imports) IsU32) (section_at 3 (function_room imports) u32_at)
functions_law imports = section_law 3 (function_room imports) IsU32 u32_at u32_law

tables_law : Law (IsSection 4 MOST_ITEMS IsTable) (section_at 4 MOST_ITEMS table_at)
tables_law = section_law 4 MOST_ITEMS IsTable table_at table_law

memories_law : Law (IsSection 5 MOST_ITEMS IsMemory) (section_at 5 MOST_ITEMS memory_at)
memories_law = section_law 5 MOST_ITEMS IsMemory memory_at memory_law

globals_law : Law (IsSection 6 MOST_ITEMS IsGlobal) (section_at 6 MOST_ITEMS global_at)
globals_law = section_law 6 MOST_ITEMS IsGlobal global_at global_law

exports_law : Law (IsSection 7 MOST_ITEMS IsExport) (section_at 7 MOST_ITEMS export_at)
exports_law = section_law 7 MOST_ITEMS IsExport export_at export_law

elements_law : Law (IsSection 9 MOST_ITEMS IsElement) (section_at 9 MOST_ITEMS element_at)
elements_law = section_law 9 MOST_ITEMS IsElement element_at element_law

data_segments_law : Law (IsSection 11 MOST_ITEMS IsData) (section_at 11 MOST_ITEMS data_at)
data_segments_law = section_law 11 MOST_ITEMS IsData data_at data_law

-- ---- the sections, one after the other

abbrev IsSignatures : Spelling Signatures
IsSignatures bytes x rest = (a : List ℕ) × (b : List ℕ)
    × IsSection 1 MOST_ITEMS IsFuncType bytes x.types a × IsSection 2 MOST_ITEMS IsImport a x.imports b
    × IsSection 3 (function_room x.imports) IsU32 b x.functions rest

signatures_take : (s : Bounds) (bytes : List ℕ) (x : Signatures) (rest : List ℕ) → signatures_at s bytes ≡ Ok (x, rest) → IsSignatures bytes x rest
unfolding signatures_at
signatures_take s bytes x rest e0 =
    bind_case (section_at 1 MOST_ITEMS func_type_at s bytes) _ _ e0 (λ types a a1 a2.
    bind_case (section_at 2 MOST_ITEMS import_at s a) _ _ a2 (λ imports b b1 b2.
    bind_case (section_at 3 (function_room imports) u32_at s b) _ _ b2 (λ functions c c1 c2.
    take_is (IsSignatures bytes) (record { types = types; imports = imports; functions = functions }) x c rest c2 (
      a,
      b,
      types_law.takes s bytes types a (sym a1),
      imports_law.takes s a imports b (sym b1),
      (functions_law imports).takes s b functions c (sym c1),
    ))))

signatures_again : (s : Bounds) (bytes : List ℕ) (x : Signatures) (rest : List ℕ) → IsSignatures bytes x rest → signatures_at s bytes ≡ Ok (x, rest)
unfolding signatures_at
signatures_again s bytes x rest h =
    rw (
      types_law.again s bytes x.types h.0 h.2,
      imports_law.again s h.0 x.imports h.1 h.3,
      (functions_law x.imports).again s h.1 x.functions rest h.4,
    ) refl

abbrev AreStores : Spelling Stores
AreStores bytes x rest = (a : List ℕ) × (b : List ℕ) × (c : List ℕ) × (d : List ℕ)
    × IsSection 4 MOST_ITEMS IsTable bytes x.tables a × IsSection 5 MOST_ITEMS IsMemory a x.memories b
    × IsSection 6 MOST_ITEMS IsGlobal b x.globals c × IsSection 7 MOST_ITEMS IsExport c x.exports d
    × IsSectionPart 8 None IsStartFunction d x.start rest

stores_take : (s : Bounds) (bytes : List ℕ) (x : Stores) (rest : List ℕ) → stores_at s bytes ≡ Ok (x, rest) → AreStores bytes x rest
unfolding stores_at
stores_take s bytes x rest e0 =
    bind_case (section_at 4 MOST_ITEMS table_at s bytes) _ _ e0 (λ tables a a1 a2.
    bind_case (section_at 5 MOST_ITEMS memory_at s a) _ _ a2 (λ memories b b1 b2.
    bind_case (section_at 6 MOST_ITEMS global_at s b) _ _ b2 (λ globals c c1 c2.
    bind_case (section_at 7 MOST_ITEMS export_at s c) _ _ c2 (λ exports d d1 d2.
    bind_case (start_at s d) _ _ d2 (λ start e e1 e2.
    take_is (AreStores bytes) (record { tables = tables; memories = memories; globals = globals; exports = exports; start = start }) x e rest e2 (
      a,
      b,
      c,
      d,
      tables_law.takes s bytes tables a (sym a1),
      memories_law.takes s a memories b (sym b1),
      globals_law.takes s b globals c (sym c1),
      exports_law.takes s c exports d (sym d1),
      start_law.takes s d start e (sym e1),
    ))))))

stores_again : (s : Bounds) (bytes : List ℕ) (x : Stores) (rest : List ℕ) → AreStores bytes x rest → stores_at s bytes ≡ Ok (x, rest)
unfolding stores_at
stores_again s bytes x rest h =
    rw (
      tables_law.again s bytes x.tables h.0 h.4,
      memories_law.again s h.0 x.memories h.1 h.5,
      globals_law.again s h.1 x.globals h.2 h.6,
      exports_law.again s h.2 x.exports h.3 h.7,
      start_law.again s h.3 x.start rest h.8,
    ) refl

abbrev AreContents : List FuncType → List ℕ → Spelling Contents
AreContents types functions bytes x rest = (a : List ℕ) × (b : List ℕ)
    × IsSection 9 MOST_ITEMS IsElement bytes x.elements a × IsSectionPart 10 [] (IsCodeSection types functions) a x.bodies b
    × IsSection 11 MOST_ITEMS IsData b x.«data» rest

contents_take : (types : List FuncType) (functions : List ℕ) (s : Bounds) (bytes : List ℕ) (x : Contents) (rest : List ℕ)
    → contents_at types functions s bytes ≡ Ok (x, rest) → AreContents types functions bytes x rest
unfolding contents_at
contents_take types functions s bytes x rest e0 =
    bind_case (section_at 9 MOST_ITEMS element_at s bytes) _ _ e0 (λ elements a a1 a2.
    bind_case (code_at types functions s a) _ _ a2 (λ bodies b b1 b2.
    bind_case (section_at 11 MOST_ITEMS data_at s b) _ _ b2 (λ segments c c1 c2.
    take_is (AreContents types functions bytes) (record { elements = elements; bodies = bodies; «data» = segments }) x c rest c2 (
      a,
      b,
      elements_law.takes s bytes elements a (sym a1),
      (code_law types functions).takes s a bodies b (sym b1),
      data_segments_law.takes s b segments c (sym c1),
    ))))

contents_again : (types : List FuncType) (functions : List ℕ) (s : Bounds) (bytes : List ℕ) (x : Contents) (rest : List ℕ)
    → AreContents types functions bytes x rest → contents_at types functions s bytes ≡ Ok (x, rest)
unfolding contents_at
contents_again types functions s bytes x rest h =
    rw (
      elements_law.again s bytes x.elements h.0 h.2,
      (code_law types functions).again s h.0 x.bodies h.1 h.3,
      data_segments_law.again s h.1 x.«data» rest h.4,
    ) refl

-- ---- the module

finish_case : {A : Type 0} (s : Bounds) (left : List ℕ) (r : Result A Refusal) (y : A)
    → (finish_at s left >>= λ whole. r) ≡ Ok y → (left ≡ []) × (r ≡ Ok y)
finish_case s [] r y e = (refl, e)
finish_case s (b ∷ left) r y e = absurd cc

pub module_takes : (bytes : List ℕ) (m : Parts) → module_at bytes ≡ Ok m → IsModuleText bytes m
unfolding module_at sections_at last_at
module_takes bytes m e0 =
    let s = input bytes in
    let fits = unless_ok (ltb MOST_MODULE_BYTES (length bytes)) (refusal faults.Limit MOST_MODULE_BYTES) _ m e0 in
    one_case (opening_at s bytes) _ _ fits.1 (λ opened o1 o2.
    bind_case (signatures_at s opened) _ _ o2 (λ x c x1 x2.
    bind_case (stores_at s c) _ _ x2 (λ y h y1 y2.
    one_case (last_at x.types x.functions s h) _ _ y2 (λ found f1 f2.
    bind_case (contents_at x.types x.functions s h) _ _ (sym f1) (λ z k z1 z2.
    one_case (customs_at (length k) s k) _ _ z2 (λ rest r1 r2.
    let wrong = refused faults.CountsDiffer s rest in
    let t = finish_case s rest (cond (eqb (length x.functions) (length z.bodies)) (good z) (bad wrong)) found r2 in
    let w = when_ok (eqb (length x.functions) (length z.bodies)) (good z) wrong found t.1 in
    let is : parts_of (length bytes) x y z ≡ m =
    ap (parts_of (length bytes) x y) (good_is z found w.1) ∙ good_is (parts_of (length bytes) x y found) m f2 in
    let customs = customs_take (length k) s k [] (omega arith) (rw t.0 at (sym r1)) in
    let signatures = signatures_take s opened x c (sym x1) in
    let stores = stores_take s c y h (sym y1) in
    let contents = contents_take x.types x.functions s h z k (sym z1) in
    let size : length bytes ≤ MOST_MODULE_BYTES = ltb-false _ _ fits.0 in
    subst (IsModuleText bytes) is (record {
      size = size;
      counted = refl;
      before_types = opened;
      before_imports = signatures.0;
      before_functions = signatures.1;
      before_tables = c;
      before_memories = stores.0;
      before_globals = stores.1;
      before_exports = stores.2;
      before_start = stores.3;
      before_elements = h;
      before_bodies = contents.0;
      before_data = contents.1;
      before_end = k;
      opening = opening_takes s bytes opened (sym o1);
      types = signatures.2;
      imports = signatures.3;
      functions = signatures.4;
      tables = stores.4;
      memories = stores.5;
      globals = stores.6;
      exports = stores.7;
      start = stores.8;
      elements = contents.2;
      bodies = contents.3;
      data_segments = contents.4;
      customs_at_end = customs.0;
      end = customs.1;
      counts = eqb-true _ _ w.0;
    })))))))

pub module_again : (bytes : List ℕ) (m : Parts) → IsModuleText bytes m → module_at bytes ≡ Ok m
unfolding module_at sections_at last_at
module_again bytes m h =
    let s = input bytes in
    let x : Signatures = record { types = m.types; imports = m.imports; functions = m.functions } in
    let y : Stores = record { tables = m.tables; memories = m.memories; globals = m.globals; exports = m.exports; start = m.start } in
    let z : Contents = record { elements = m.elements; bodies = m.bodies; «data» = m.«data» } in
    rw (
      le-ltb MOST_MODULE_BYTES (length bytes) h.size,
      opening_again s bytes h.before_types h.opening,
      signatures_again s h.before_types x h.before_tables (h.before_imports, h.before_functions, h.types, h.imports, h.functions),
      stores_again s h.before_tables y h.before_elements (
        h.before_memories,
        h.before_globals,
        h.before_exports,
        h.before_start,
        h.tables,
        h.memories,
        h.globals,
        h.exports,
        h.start,
      ),
      contents_again m.types m.functions s h.before_elements z h.before_end (h.before_bodies, h.before_data, h.elements, h.bodies, h.data_segments),
      customs_again (length h.before_end) s h.before_end h.customs_at_end [] (omega arith) h.end,
      eq-eqb (length m.functions) (length m.bodies) h.counts,
      sym h.counted,
    ) refl

-- ---- what a reader answers

pub is_found : {X : Type 0} (view : X → Parts) (r : Result X ReadFault) (bytes : List ℕ)
    → GivesInMemory view r (module_at bytes) → IfOk r (λ m. IsModuleText bytes (view m))
is_found view (Ok m) bytes given = module_takes bytes (view m) given
is_found view (Err e) bytes given = tt

no_fault : {X : Type 0} (e : ReadFault) (m : X) → Fails e (good m) → Refuses e → ⊥
no_fault OutOfMemory m f r = r
no_fault (Malformed kind offset) m f r = absurd cc

pub is_only : {X : Type 0} (view : X → Parts) (r : Result X ReadFault) (bytes : List ℕ)
    → GivesInMemory view r (module_at bytes) → (m : Parts) → IsModuleText bytes m
    → MatchResult r (λ x. view x ≡ m) (λ e. Refuses e → ⊥)
is_only view (Ok x) bytes given m h = good_is (view x) m (sym given ∙ module_again bytes m h)
is_only view (Err e) bytes given m h = no_fault e m (subst (λ (o : Result Parts Refusal). Fails e o) (module_again bytes m h) given)

-- The bytes spell one module at most.
pub is_one : (bytes : List ℕ) (a b : Parts) → IsModuleText bytes a → IsModuleText bytes b → a ≡ b
is_one bytes a b ha hb = good_is a b (sym (module_again bytes a ha) ∙ module_again bytes b hb)
