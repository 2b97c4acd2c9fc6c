-- A module whose memory is given other pages is a module, and valid where it is.
use Rattle.std.proofs.Common.{◌≡◌, ℕ, ◌+◌, ◌≤◌, ◌<◌, List, [], ◌∷◌, ◌++◌, length, map, Option, Some, None, IfSome, refl, sym, ap, ◌∙◌, subst, arith}
use Rattle.std.proofs.lemmas.List.{map-append, length-map}
use Rattle.std.proofs.lemmas.List.Elements.{All-nil, All-cons, All-head, All-map, All-weaker}
use Rattle.std.proofs.lemmas.List.Sums.{sum_by-cons}
use Rattle.std.proofs.lemmas.Option.{slice_get-map}
use Rattle.std.specs.Prelude.{cond, count_by}
use Rattle.std.specs.Option.{option_map}
use Rattle.std.specs.List.{slice_get, All, flat_map, zip}
use Rattle.types.specs.declared.parts.Limits.{Limits}
use Rattle.types.specs.declared.parts.Import.{Import}
use Rattle.types.specs.declared.parts.Export.{Export}
use Rattle.types.specs.declared.parts.ExportDesc.{ExportDesc}
use Rattle.types.specs.declared.parts.ExportDesc.TheVariants as exports
use Rattle.types.specs.declared.parts.ElementSegment.{ElementSegment}
use Rattle.types.specs.declared.parts.DataSegment.{DataSegment}
use Rattle.types.specs.declared.parts.Body.{Body}
use Rattle.types.specs.declared.parts.ImportDesc.{ImportDesc}
use Rattle.types.specs.declared.parts.ImportDesc.TheVariants as imports
use Rattle.types.specs.declared.parts.Parts.{Parts}
use Rattle.types.specs.declared.limits.TheConstants.{MOST_PAGES}
use Rattle.types.specs.Nesting.{IsExpression}
use Rattle.types.specs.Modules.{IsModule}
use Rattle.types.specs.Within.{IsWithinLimits, IsMemoryWithin, IsDescWithin, is_func}
use Rattle.validate_typing.specs.Context.{Context, function_of, memory_of, imported_functions, functions_of, memories_of, context_of}
use Rattle.validate_typing.specs.Image.{max_of, max_of_limits, pages_max_of}
use Rattle.validate_module.specs.Pages.{IsWithinPages}
use Rattle.validate_typing.specs.Typing.{HasMemory}
use Rattle.validate_typing.specs.Validity.{IsValid, IsValidData, IsValidElement, IsValidFunction, IsValidImport, IsValidImportOf, IsValidMemory, IsThere, IsThreaded}
use Rattle.replay.proofs.Openable.{pages_within}
use Rattle.host_instances.specs.Instances.{with_min, desc_with, import_with, blank}
use Rattle.host_instances.proofs.Typed.{with_memories, function_typed}

module _ (p : ℕ) where
  function_same : (d : ImportDesc) → function_of (desc_with p d) ≡ function_of d
  function_same (imports.Func index) = refl
  function_same (imports.Table l) = refl
  function_same (imports.Memory l) = refl
  function_same (imports.Global g) = refl

  functions_same : (is : List Import) → flat_map (λ (i : Import). function_of i.desc) (map (import_with p) is) ≡ flat_map (λ (i : Import). function_of i.desc) is
  functions_same [] = refl
  functions_same (i ∷ is) = let first = function_same i.desc in let rest = functions_same is in cc (first, rest)

  memory_same : (d : ImportDesc) → memory_of (desc_with p d) ≡ map (with_min p) (memory_of d)
  memory_same (imports.Func index) = refl
  memory_same (imports.Table l) = refl
  memory_same (imports.Memory l) = refl
  memory_same (imports.Global g) = refl

  imported_memories : (is : List Import) → flat_map (λ (i : Import). memory_of i.desc) (map (import_with p) is) ≡ map (with_min p) (flat_map (λ (i : Import). memory_of i.desc) is)
  imported_memories [] = refl
  imported_memories (i ∷ is) =
      let first = memory_same i.desc in let rest = imported_memories is in
      let whole = map-append (with_min p) (memory_of i.desc) (flat_map (λ (i : Import). memory_of i.desc) is) in cc (first, rest, whole)

  is_func_same : (d : ImportDesc) → is_func (desc_with p d) ≡ is_func d
  is_func_same (imports.Func index) = refl
  is_func_same (imports.Table l) = refl
  is_func_same (imports.Memory l) = refl
  is_func_same (imports.Global g) = refl

  counts_same : (is : List Import) → count_by (λ (i : Import). is_func i.desc) (map (import_with p) is) ≡ count_by (λ (i : Import). is_func i.desc) is
  counts_same [] = refl
  counts_same (i ∷ is) =
      let f : Import → ℕ = λ i. cond (is_func i.desc) 1 0 in
      let first : f (import_with p i) ≡ f i = ap (λ b. cond b 1 0) (is_func_same i.desc) in let rest = counts_same is in
      let new = sum_by-cons f (import_with p i) (map (import_with p) is) in let old = sum_by-cons f i is in cc (first, rest, new, old)

module _ (m : Parts) (p : ℕ) where
  pub imported_same : imported_functions (blank m p) ≡ imported_functions m
  imported_same = functions_same p m.imports

  pub all_same : functions_of (blank m p) ≡ functions_of m
  all_same = ap (λ (fs : List ℕ). fs ++ m.functions) imported_same

  pub memories_blank : memories_of (blank m p) ≡ map (with_min p) (memories_of m)
  memories_blank =
      let imported = imported_memories p m.imports in
      let whole = map-append (with_min p) (flat_map (λ (i : Import). memory_of i.desc) m.imports) m.memories in cc (imported, whole)

  pub first_memory : slice_get (memories_of (blank m p)) 0 ≡ option_map (with_min p) (slice_get (memories_of m) 0)
  first_memory = ap (λ (ms : List Limits). slice_get ms 0) memories_blank ∙ slice_get-map (with_min p) (memories_of m) 0

  context_same : with_memories (context_of m) (memories_of (blank m p)) ≡ context_of (blank m p)
  context_same = ap (λ (fs : List ℕ). record (context_of (blank m p)) { functions = fs }) (sym all_same)

  has_memory : HasMemory (context_of m) → HasMemory (with_memories (context_of m) (memories_of (blank m p)))
  has_memory has = (with_min p has.0, first_memory ∙ ap (λ (l : Option Limits). option_map (with_min p) l) has.1)

max_same : (most p : ℕ) (l : Option Limits) → max_of most (option_map (with_min p) l) ≡ max_of most l
max_same most p None = refl
max_same most p (Some l) = refl

pub maximum_same : (m : Parts) (p most : ℕ) → pages_max_of most (blank m p) ≡ pages_max_of most m
maximum_same m p most = ap (max_of most) (first_memory m p) ∙ max_same most p (slice_get (memories_of m) 0)

-- at most one memory, which may have so many pages
module _ (p : ℕ) where
  ordered : (max : Option ℕ) → p ≤ max_of_limits MOST_PAGES max → IfSome max (λ n. p ≤ n)
  ordered None low = tt
  ordered (Some n) low = low

  memories_valid : (ms : List Limits) → length ms ≤ 1 → p ≤ max_of MOST_PAGES (slice_get ms 0) → All IsValidMemory ms → All IsValidMemory (map (with_min p) ms)
  memories_valid [] few low vs = All-nil IsValidMemory
  memories_valid (l ∷ []) few low vs =
      All-cons IsValidMemory (with_min p l) [] (ordered l.max low, (All-head IsValidMemory l [] vs).1) (All-nil IsValidMemory)
  memories_valid (l ∷ (k ∷ ms)) few low vs = absurd (omega arith)

  few_by : (max : Option ℕ) → IfSome max (λ n. n ≤ MOST_PAGES) → p ≤ max_of_limits MOST_PAGES max → p ≤ MOST_PAGES
  few_by None is low = low
  few_by (Some n) is low = omega arith

  few_pages : (l : Option Limits) → IsWithinPages MOST_PAGES l → p ≤ max_of MOST_PAGES l → p ≤ MOST_PAGES
  few_pages None within low = omega arith
  few_pages (Some l) within low = few_by l.max within.1 low

desc_within : (p : ℕ) → p ≤ MOST_PAGES → (d : ImportDesc) → IsDescWithin d → IsDescWithin (desc_with p d)
desc_within p few (imports.Func index) is = is
desc_within p few (imports.Table l) is = is
desc_within p few (imports.Memory l) is = (few, is.1)
desc_within p few (imports.Global g) is = is

module _ (m : Parts) (p : ℕ) (low : p ≤ pages_max_of MOST_PAGES m) where
  module _ (x : IsModule m) where
    few : p ≤ MOST_PAGES
    few = few_pages p (slice_get (memories_of m) 0) (pages_within m x) low

    limits_blank : IsWithinLimits (blank m p)
    limits_blank = let w = x.limits in record {
      types = w.types;
      imports = omega (arith, length-map m.imports (import_with p), w.imports);
      functions = omega (arith, counts_same p m.imports, w.functions);
      tables = w.tables;
      memories = omega (arith, length-map m.memories (with_min p), w.memories);
      globals = w.globals;
      exports = w.exports;
      elements = w.elements;
      data_segments = omega arith;
      size = w.size;
      each_type = w.each_type;
      each_import = All-map (λ (i : Import). IsDescWithin i.desc) (import_with p) m.imports
          (All-weaker (λ (i : Import). IsDescWithin i.desc) (λ (i : Import). IsDescWithin (desc_with p i.desc)) (λ (i : Import) is. desc_within p few i.desc is) m.imports w.each_import);
      each_table = w.each_table;
      each_memory = All-map IsMemoryWithin (with_min p) m.memories
          (All-weaker IsMemoryWithin (λ (l : Limits). IsMemoryWithin (with_min p l)) (λ (l : Limits) is. (few, is.1)) m.memories w.each_memory);
      each_element = w.each_element;
      each_body = w.each_body;
    }

    pub module_blank : IsModule (blank m p)
    module_blank = record {
      limits = limits_blank;
      bodies = x.bodies;
      initial_values = x.initial_values;
      element_offsets = x.element_offsets;
      data_offsets = All-nil (λ (d : DataSegment). IsExpression d.offset);
      code = x.code;
    }

  module _ (v : IsValid m) where
    import_valid : (from name : List ℕ) (d : ImportDesc) → IsValidImportOf m from name d → IsValidImportOf (blank m p) from name (desc_with p d)
    import_valid from name (imports.Func index) is = is
    import_valid from name (imports.Table l) is = is
    import_valid from name (imports.Memory l) is = is
    import_valid from name (imports.Global g) is = is

    there : (d : ExportDesc) → IsThere m d → IsThere (blank m p) d
    there (exports.Func f) is = subst (λ (fs : List ℕ). f < length fs) (sym (all_same m p)) is
    there (exports.Table t) is = is
    there (exports.Memory k) is = omega (arith, is, ap (λ (ms : List Limits). length ms) (memories_blank m p), length-map (memories_of m) (with_min p))
    there (exports.Global g) is = is

    element_valid : (e : ElementSegment) → IsValidElement m e → IsValidElement (blank m p) e
    element_valid e is = (is.0, is.1, is.2, is.3, subst (λ (fs : List ℕ). All (λ f. f < length fs) e.functions) (sym (all_same m p)) is.4, is.5)

    threaded : IsThreaded m → IsThreaded (blank m p)
    threaded t = record {
      place = t.place;
      entry = t.entry;
      own = t.own;
      index = t.index;
      memory = with_min p t.memory;
      exported = t.exported;
      name = t.name;
      desc = subst (λ (fs : List ℕ). t.entry.desc ≡ exports.Func (length fs + t.own)) (sym (imported_same m p)) t.desc;
      function = t.function;
      takes_two = t.takes_two;
      has_memory = first_memory m p ∙ ap (λ (l : Option Limits). option_map (with_min p) l) t.has_memory;
      shared = t.shared;
    }

    function_valid : (f : ℕ × Body) → IsValidFunction (context_of m) f.0 f.1 → IsValidFunction (context_of (blank m p)) f.0 f.1
    function_valid f is =
        subst (λ (c : Context). IsValidFunction c f.0 f.1) (context_same m p)
        (function_typed (context_of m) (memories_of (blank m p)) (has_memory m p) f.0 f.1 is)

    pub valid_blank : IsValid (blank m p)
    valid_blank = record {
      types = v.types;
      imports = All-map (IsValidImport (blank m p)) (import_with p) m.imports
          (All-weaker (IsValidImport m) (λ (i : Import). IsValidImport (blank m p) (import_with p i)) (λ (i : Import) is. import_valid i.module i.name i.desc is) m.imports v.imports);
      function_types = v.function_types;
      one_table = v.one_table;
      tables = v.tables;
      one_memory = omega (arith, v.one_memory, ap (λ (ms : List Limits). length ms) (memories_blank m p), length-map (memories_of m) (with_min p));
      memories = subst (All IsValidMemory) (sym (memories_blank m p)) (memories_valid p (memories_of m) v.one_memory low v.memories);
      globals = v.globals;
      export_names = v.export_names;
      exports = All-weaker (λ (e : Export). IsThere m e.desc) (λ (e : Export). IsThere (blank m p) e.desc) (λ (e : Export) is. there e.desc is) m.exports v.exports;
      start = v.start;
      elements = All-weaker (IsValidElement m) (IsValidElement (blank m p)) (λ (e : ElementSegment) is. element_valid e is) m.elements v.elements;
      data_segments = All-nil (IsValidData (blank m p));
      threads = λ some. threaded (v.threads (subst (λ (fs : List ℕ). 0 < length fs) (imported_same m p) some));
      functions = All-weaker (λ (f : ℕ × Body). IsValidFunction (context_of m) f.0 f.1) (λ (f : ℕ × Body). IsValidFunction (context_of (blank m p)) f.0 f.1)
          (λ (f : ℕ × Body) is. function_valid f is) (zip m.functions m.bodies) v.functions;
    }
