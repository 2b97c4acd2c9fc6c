-- Each test of a module's parts tells the fact that it is for.
use Rattle.std.proofs.Common.{◌≡◌, ℕ, ◌+◌, ◌≤◌, List, length, Bool, true, false, nat_le, count_by, Option, Some, None, IfSome, refl, arith}
use Rattle.std.specs.Bool.{Decides}
use Rattle.std.specs.List.{All, list_all, zip}
use Rattle.std.proofs.lemmas.Bool.Decides.{Decides-eqb, Decides-and, Decides-like, Decides-by_and, not_from_Decides, nat_tests}
use Rattle.types.specs.declared.parts.Limits.{Limits}
use Rattle.types.specs.declared.parts.FuncType.{FuncType}
use Rattle.types.specs.declared.parts.ImportDesc.{ImportDesc}
use Rattle.types.specs.declared.parts.ImportDesc.TheVariants as imports
use Rattle.types.specs.declared.parts.Body.{Body}
use Rattle.types.specs.declared.parts.Parts.{Parts}
use Rattle.types.specs.Nesting.{IsExpression}
use Rattle.types.specs.Within.{IsWithinLimits, IsTypeWithin, IsTableWithin, IsMemoryWithin, IsDescWithin, IsBodyWithin, is_func, param_count}
use Rattle.types.specs.Modules.{IsModule}
use Rattle.types.specs.Tests.{is_expression, is_type_within, is_table_within, is_max_within, is_memory_within}
use Rattle.types.specs.Tests.{is_desc_within, is_body_within, has_few_items, has_items_within, has_bodies_within}
use Rattle.types.specs.Tests.{has_nested_code, is_module}
use Rattle.types.proofs.Nested.{Decides-expression}
use Rattle.types.specs.declared.limits.TheConstants.{MOST_PAGES, MOST_ITEMS, MOST_FUNCTIONS, MOST_ELEMENTS, MOST_PARAMS, MOST_LOCALS, MOST_MODULE_BYTES}

Decides-leb : (a b : ℕ) → Decides (nat_le a b) (a ≤ b)
Decides-leb a b = (λ h. grind (arith, nat_tests), λ h. grind (arith, nat_tests))

Decides-all : {X : Type 0} (p : X → Bool) (P : X → Type 0) → ((x : X) → Decides (p x) (P x)) → (xs : List X) → Decides (list_all p xs) (All P xs)
Decides-all p P each xs = Decides-by_and p P (list_all p) each refl (λ _ _. refl) xs

Decides-type : (t : FuncType) → Decides (is_type_within t) (IsTypeWithin t)
Decides-type t = Decides-and _ _ (Decides-leb (length t.params) MOST_PARAMS) (Decides-leb (length t.results) MOST_PARAMS)

Decides-table : (l : Limits) → Decides (is_table_within l) (IsTableWithin l)
Decides-table l = Decides-leb l.min MOST_ELEMENTS

Decides-max : (m : Option ℕ) → Decides (is_max_within m) (IfSome m (λ m. m ≤ MOST_PAGES))
Decides-max None = (λ _. tt, λ _. refl)
Decides-max (Some m) = Decides-leb m MOST_PAGES

Decides-memory : (l : Limits) → Decides (is_memory_within l) (IsMemoryWithin l)
Decides-memory l = Decides-and _ _ (Decides-leb l.min MOST_PAGES) (Decides-max l.max)

Decides-desc : (d : ImportDesc) → Decides (is_desc_within d) (IsDescWithin d)
Decides-desc (imports.Func f) = (λ _. tt, λ _. refl)
Decides-desc (imports.Table l) = Decides-table l
Decides-desc (imports.Memory l) = Decides-memory l
Decides-desc (imports.Global g) = (λ _. tt, λ _. refl)

Decides-body : (types : List FuncType) (f : ℕ × Body) → Decides (is_body_within types f.0 f.1) (IsBodyWithin types f.0 f.1)
Decides-body types f = Decides-leb (param_count types f.0 + length f.1.locals) MOST_LOCALS

-- the facts of each group of tests
record HasFewItems (m : Parts) : Type 0 where
  types : length m.types ≤ MOST_ITEMS
  imports : length m.imports ≤ MOST_ITEMS
  functions : count_by (λ i. is_func i.desc) m.imports + length m.functions ≤ MOST_FUNCTIONS
  tables : length m.tables ≤ MOST_ITEMS
  memories : length m.memories ≤ MOST_ITEMS
  globals : length m.globals ≤ MOST_ITEMS
  exports : length m.exports ≤ MOST_ITEMS
  elements : length m.elements ≤ MOST_ITEMS
  data_segments : length m.data ≤ MOST_ITEMS
  size : m.length ≤ MOST_MODULE_BYTES

record HasItemsWithin (m : Parts) : Type 0 where
  each_type : All IsTypeWithin m.types
  each_import : All (λ i. IsDescWithin i.desc) m.imports
  each_table : All IsTableWithin m.tables
  each_memory : All IsMemoryWithin m.memories
  each_element : All (λ e. length e.functions ≤ MOST_FUNCTIONS) m.elements

record HasNestedCode (m : Parts) : Type 0 where
  initial_values : All (λ g. IsExpression g.init) m.globals
  element_offsets : All (λ e. IsExpression e.offset) m.elements
  data_offsets : All (λ d. IsExpression d.offset) m.data
  code : All (λ b. IsExpression b.code) m.bodies

Decides-few : (m : Parts) → Decides (has_few_items m) (HasFewItems m)
Decides-few m =
    Decides-like (has_few_items m)
    (λ t. record {
      types = t.0.0.0.0.0.0.0.0.0;
      imports = t.0.0.0.0.0.0.0.0.1;
      functions = t.0.0.0.0.0.0.0.1;
      tables = t.0.0.0.0.0.0.1;
      memories = t.0.0.0.0.0.1;
      globals = t.0.0.0.0.1;
      exports = t.0.0.0.1;
      elements = t.0.0.1;
      data_segments = t.0.1;
      size = t.1;
    })
    (λ t. (((((((((t.types, t.imports), t.functions), t.tables), t.memories), t.globals), t.exports), t.elements), t.data_segments), t.size))
    (Decides-and _ _ (Decides-and _ _ (Decides-and _ _ (Decides-and _ _ (Decides-and _ _ (Decides-and _ _ (Decides-and _ _ (Decides-and _ _ (Decides-and _ _
    (Decides-leb (length m.types) MOST_ITEMS)
    (Decides-leb (length m.imports) MOST_ITEMS))
    (Decides-leb (count_by (λ i. is_func i.desc) m.imports + length m.functions) MOST_FUNCTIONS))
    (Decides-leb (length m.tables) MOST_ITEMS))
    (Decides-leb (length m.memories) MOST_ITEMS))
    (Decides-leb (length m.globals) MOST_ITEMS))
    (Decides-leb (length m.exports) MOST_ITEMS))
    (Decides-leb (length m.elements) MOST_ITEMS))
    (Decides-leb (length m.data) MOST_ITEMS))
    (Decides-leb m.length MOST_MODULE_BYTES))

Decides-items : (m : Parts) → Decides (has_items_within m) (HasItemsWithin m)
Decides-items m =
    Decides-like (has_items_within m)
    (λ t. record { each_type = t.0.0.0.0; each_import = t.0.0.0.1; each_table = t.0.0.1; each_memory = t.0.1; each_element = t.1 })
    (λ t. ((((t.each_type, t.each_import), t.each_table), t.each_memory), t.each_element))
    (Decides-and _ _ (Decides-and _ _ (Decides-and _ _ (Decides-and _ _
    (Decides-all is_type_within IsTypeWithin Decides-type m.types)
    (Decides-all (λ i. is_desc_within i.desc) (λ i. IsDescWithin i.desc) (λ i. Decides-desc i.desc) m.imports))
    (Decides-all is_table_within IsTableWithin Decides-table m.tables))
    (Decides-all is_memory_within IsMemoryWithin Decides-memory m.memories))
    (Decides-all (λ e. nat_le (length e.functions) MOST_FUNCTIONS) (λ e. length e.functions ≤ MOST_FUNCTIONS)
    (λ e. Decides-leb (length e.functions) MOST_FUNCTIONS) m.elements))

Decides-nested : (m : Parts) → Decides (has_nested_code m) (HasNestedCode m)
Decides-nested m =
    Decides-like (has_nested_code m)
    (λ t. record { initial_values = t.0.0.0; element_offsets = t.0.0.1; data_offsets = t.0.1; code = t.1 })
    (λ t. (((t.initial_values, t.element_offsets), t.data_offsets), t.code))
    (Decides-and _ _ (Decides-and _ _ (Decides-and _ _
    (Decides-all (λ g. is_expression g.init) (λ g. IsExpression g.init) (λ g. Decides-expression g.init) m.globals)
    (Decides-all (λ e. is_expression e.offset) (λ e. IsExpression e.offset) (λ e. Decides-expression e.offset) m.elements))
    (Decides-all (λ d. is_expression d.offset) (λ d. IsExpression d.offset) (λ d. Decides-expression d.offset) m.data))
    (Decides-all (λ b. is_expression b.code) (λ b. IsExpression b.code) (λ b. Decides-expression b.code) m.bodies))

few_of : (m : Parts) → IsWithinLimits m → HasFewItems m
few_of m w = record {
  types = w.types;
  imports = w.imports;
  functions = w.functions;
  tables = w.tables;
  memories = w.memories;
  globals = w.globals;
  exports = w.exports;
  elements = w.elements;
  data_segments = w.data_segments;
  size = w.size;
}

items_of : (m : Parts) → IsWithinLimits m → HasItemsWithin m
items_of m w = record {
  each_type = w.each_type;
  each_import = w.each_import;
  each_table = w.each_table;
  each_memory = w.each_memory;
  each_element = w.each_element;
}

nested_of : (m : Parts) → IsModule m → HasNestedCode m
nested_of m w = record { initial_values = w.initial_values; element_offsets = w.element_offsets; data_offsets = w.data_offsets; code = w.code }

Decides-bodies : (m : Parts) → Decides (has_bodies_within m)
    ((length m.functions ≡ length m.bodies) × All (λ f. IsBodyWithin m.types f.0 f.1) (zip m.functions m.bodies))
Decides-bodies m =
    Decides-and _ _ (Decides-eqb (length m.functions) (length m.bodies))
    (Decides-all (λ f. is_body_within m.types f.0 f.1) (λ f. IsBodyWithin m.types f.0 f.1) (Decides-body m.types) (zip m.functions m.bodies))

-- the test tells which parts make a module
pub Decides-module : (m : Parts) → Decides (is_module m) (IsModule m)
Decides-module m =
    Decides-like (is_module m)
    (λ t. record {
      limits = record {
        types = t.0.0.0.types;
        imports = t.0.0.0.imports;
        functions = t.0.0.0.functions;
        tables = t.0.0.0.tables;
        memories = t.0.0.0.memories;
        globals = t.0.0.0.globals;
        exports = t.0.0.0.exports;
        elements = t.0.0.0.elements;
        data_segments = t.0.0.0.data_segments;
        size = t.0.0.0.size;
        each_type = t.0.0.1.each_type;
        each_import = t.0.0.1.each_import;
        each_table = t.0.0.1.each_table;
        each_memory = t.0.0.1.each_memory;
        each_element = t.0.0.1.each_element;
        each_body = t.0.1.1;
      };
      bodies = t.0.1.0;
      initial_values = t.1.initial_values;
      element_offsets = t.1.element_offsets;
      data_offsets = t.1.data_offsets;
      code = t.1.code;
    })
    (λ m'. (((few_of m m'.limits, items_of m m'.limits), (m'.bodies, m'.limits.each_body)), nested_of m m'))
    (Decides-and _ _ (Decides-and _ _ (Decides-and _ _ (Decides-few m) (Decides-items m)) (Decides-bodies m)) (Decides-nested m))

pub module_from : (m : Parts) → is_module m ≡ true → IsModule m
module_from m = (Decides-module m).0

pub no_module : (m : Parts) → is_module m ≡ false → IsModule m → ⊥
no_module m h = not_from_Decides (is_module m) (Decides-module m) h
