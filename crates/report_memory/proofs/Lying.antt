-- A module with bytes laid over its memory is a module, valid where it is, and opens with them.
use Rattle.std.proofs.Common.{◌≡◌, ℕ, ◌+◌, ◌*◌, ◌≤◌, ◌<◌, nat_le, nat_lt, if◌then◌else◌, Bool, true, false, List, []}
use Rattle.std.proofs.Common.{◌∷◌, ◌++◌, length, replicate, Option, Some, None, refl, arith, length-append}
use Rattle.std.proofs.lemmas.Bool.Decides.{nat_tests}
use Rattle.std.proofs.lemmas.List.Elements.{All-append, All-nil, All-cons}
use Rattle.std.proofs.lemmas.List.Sums.{fold-append}
use Rattle.std.specs.List.{slice_get}
use Rattle.types.specs.declared.instr.PlainInstr.TheVariants as plain
use Rattle.types.specs.declared.instr.Instr.TheVariants as instrs
use Rattle.types.specs.declared.parts.Limits.{Limits}
use Rattle.types.specs.declared.parts.DataSegment.{DataSegment}
use Rattle.types.specs.declared.parts.Parts.{Parts}
use Rattle.types.specs.declared.limits.TheConstants.{MOST_ITEMS, MOST_NESTED, PAGE_SIZE}
use Rattle.types.specs.Nesting.{IsExpression}
use Rattle.types.specs.Nesting.Code.{Empty, Then}
use Rattle.types.specs.Modules.{IsModule}
use Rattle.types.specs.Within.{IsWithinLimits}
use Rattle.validate_typing.specs.Context.{memories_of}
use Rattle.validate_typing.specs.Image.{with_segment, opening_image, opening_pages}
use Rattle.validate_typing.specs.Validity.{IsValid, IsValidData, IsThreaded}
use Rattle.report_memory.specs.Laid.{segment_at, laid, unlaid_in, unlaid, TheImageIsLaidOver, LaidModulesAreValid}
use Rattle.report_memory.specs.declared.laying.Unlaid.{Unlaid}
use Rattle.report_memory.specs.declared.laying.Unlaid.TheVariants.{Outside, Segments}

-- where they can be laid there is a memory, they lie within its opening pages, and there is room for a segment
record MayLie (memory : Option Limits) (segments addr count : ℕ) : Type 0 where
  pub limits : Limits
  pub is : memory ≡ Some limits
  pub within : addr + count ≤ PAGE_SIZE * limits.min
  pub few : segments < MOST_ITEMS

module _ (l : Limits) (segments addr count : ℕ) where
  may_by : (within few : Bool) → nat_le (addr + count) (PAGE_SIZE * l.min) ≡ within → nat_lt segments MOST_ITEMS ≡ few
      → (if within then (if few then None else Some Segments) else Some (Outside (PAGE_SIZE * l.min))) ≡ None
      → MayLie (Some l) segments addr count
  may_by true true is_within are_few can =
      record { limits = l; is = refl; within = grind (arith, nat_tests); few = grind (arith, nat_tests) }
  may_by true false is_within are_few can = cc can
  may_by false few is_within are_few can = cc can

may_lie : (memory : Option Limits) (segments addr count : ℕ) → unlaid_in memory segments addr count ≡ None
    → MayLie memory segments addr count
may_lie None segments addr count can = cc can
may_lie (Some l) segments addr count can =
    may_by l segments addr count (nat_le (addr + count) (PAGE_SIZE * l.min)) (nat_lt segments MOST_ITEMS) refl refl can

offset_is_expression : (addr : ℕ) → IsExpression (instrs.Plain (plain.I32Const addr) ∷ (instrs.End ∷ []))
offset_is_expression addr = (Then (plain.I32Const addr) Empty, refl, omega arith)

module _ (m : Parts) (addr : ℕ) (bytes : List ℕ) (can : unlaid m addr (length bytes) ≡ None) where
  may : MayLie (slice_get (memories_of m) 0) (length m.«data») addr (length bytes)
  may = may_lie (slice_get (memories_of m) 0) (length m.«data») addr (length bytes) can

  limits_laid : IsWithinLimits m → IsWithinLimits (laid m addr bytes)
  limits_laid w = record {
    types = w.types;
    imports = w.imports;
    functions = w.functions;
    tables = w.tables;
    memories = w.memories;
    globals = w.globals;
    exports = w.exports;
    elements = w.elements;
    data_segments = omega (arith, length-append m.«data» (segment_at addr bytes ∷ []), may.few);
    size = w.size;
    each_type = w.each_type;
    each_import = w.each_import;
    each_table = w.each_table;
    each_memory = w.each_memory;
    each_element = w.each_element;
    each_body = w.each_body;
  }

  pub module_laid : IsModule m → IsModule (laid m addr bytes)
  module_laid x = record {
    limits = limits_laid x.limits;
    bodies = x.bodies;
    initial_values = x.initial_values;
    element_offsets = x.element_offsets;
    data_offsets = All-append (λ (d : DataSegment). IsExpression d.offset) m.«data» (segment_at addr bytes ∷ []) x.data_offsets
        (All-cons (λ (d : DataSegment). IsExpression d.offset) (segment_at addr bytes) [] (offset_is_expression addr)
        (All-nil (λ (d : DataSegment). IsExpression d.offset)));
    code = x.code;
  }

  threaded_laid : IsThreaded m → IsThreaded (laid m addr bytes)
  threaded_laid t = record {
    place = t.place;
    entry = t.entry;
    own = t.own;
    index = t.index;
    memory = t.memory;
    exported = t.exported;
    name = t.name;
    desc = t.desc;
    function = t.function;
    takes_two = t.takes_two;
    has_memory = t.has_memory;
    shared = t.shared;
  }

  segment_is_valid : IsValidData m (segment_at addr bytes)
  segment_is_valid = (may.limits, addr, may.is, refl, may.within)

  pub valid_laid : IsValid m → IsValid (laid m addr bytes)
  valid_laid v = record {
    types = v.types;
    imports = v.imports;
    function_types = v.function_types;
    one_table = v.one_table;
    tables = v.tables;
    one_memory = v.one_memory;
    memories = v.memories;
    globals = v.globals;
    export_names = v.export_names;
    exports = v.exports;
    start = v.start;
    elements = v.elements;
    data_segments = All-append (IsValidData m) m.«data» (segment_at addr bytes ∷ []) v.data_segments
        (All-cons (IsValidData m) (segment_at addr bytes) [] segment_is_valid (All-nil (IsValidData m)));
    threads = λ some. threaded_laid (v.threads some);
    functions = v.functions;
  }

pub laid_over : TheImageIsLaidOver
laid_over m addr bytes =
    fold-append with_segment (replicate (PAGE_SIZE * opening_pages m) 0) m.«data» (segment_at addr bytes ∷ [])

pub laid_valid : LaidModulesAreValid
laid_valid m addr bytes valid can = valid_laid m addr bytes can valid
