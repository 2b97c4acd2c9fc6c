-- The modules of one atomic add are valid.
use Rattle.std.proofs.Common.{ℕ, zero, suc, ◌<◌, true, [], ◌∷◌, Some, refl, arith}
use Rattle.std.proofs.lemmas.List.Elements.{All-nil, All-cons}
use Rattle.types.specs.declared.value.ValType.TheVariants.{I32}
use Rattle.types.specs.declared.value.Value.TheVariants as values
use Rattle.types.specs.declared.event.RmwOp.TheVariants as ops
use Rattle.types.specs.declared.operators.AccessWidth.TheVariants as access
use Rattle.types.specs.declared.operators.AtomicOp.TheVariants as atomic
use Rattle.types.specs.declared.instr.PlainInstr.TheVariants as plain
use Rattle.types.specs.declared.parts.Export.{Export}
use Rattle.types.specs.declared.parts.Parts.{Parts}
use Rattle.types.specs.Nesting.{Code, Empty, Then}
use Rattle.validate_typing.specs.Context.{Context, context_of, in_function}
use Rattle.validate_typing.specs.Typing.{HasMemory, IsTyped}
use Rattle.validate_typing.specs.Validity.{IsValidType, IsValidImport, IsValidTable, IsValidMemory, IsValidGlobal, HasDistinctNames, IsThere}
use Rattle.validate_typing.specs.Validity.{IsValidElement, IsValidData, IsValidFunction, IsValid}
use Rattle.report_first.specs.First.{first_type, first_code, first_body, first_parts, whole_word}
use Rattle.report_first.specs.Laws.{FirstModulesAreValid}

module _ (a v : ℕ) where
  abbrev m : Parts
  m = first_parts a v

  abbrev context : Context
  context = in_function (context_of m) first_type (first_body a v)

  nested : Code
  nested = Then (plain.I32Const a) (Then (plain.I32Const v)
      (Then (plain.Atomic (atomic.Rmw ops.Add (access.Whole I32)) whole_word) Empty))

  has_memory : HasMemory context
  has_memory = (record { min = 1; max = Some 1; shared = true }, refl)

  typed : IsTyped context (first_code a v)
  unfolding nested
  typed = (
    nested,
    refl,
    (
      I32 ∷ [],
      ([], refl, refl),
      (I32 ∷ I32 ∷ [], (I32 ∷ [], refl, refl), (I32 ∷ [], (has_memory, refl, ([], refl, refl)), refl)),
    ),
  )

  one_name : HasDistinctNames m.exports
  one_name i zero x y before first second same = omega (arith, before)
  one_name i (suc k) x y before first second same = absurd (cc second)

  pub is_valid : IsValid m
  is_valid = record {
    types = All-cons IsValidType first_type [] (omega arith) (All-nil IsValidType);
    imports = All-nil (IsValidImport m);
    function_types = All-cons (λ index. index < 1) 0 [] (omega arith) (All-nil (λ index. index < 1));
    one_table = omega arith;
    tables = All-nil IsValidTable;
    one_memory = omega arith;
    memories = All-cons IsValidMemory _ [] (omega arith, (λ shared. (1, refl))) (All-nil IsValidMemory);
    globals = All-nil IsValidGlobal;
    export_names = one_name;
    exports = All-cons (λ (e : Export). IsThere m e.desc) _ [] (omega arith) (All-nil (λ (e : Export). IsThere m e.desc));
    start = refl;
    elements = All-nil (IsValidElement m);
    data_segments = All-nil (IsValidData m);
    threads = λ some. absurd (omega (arith, some));
    functions = All-cons (λ f. IsValidFunction (context_of m) f.0 f.1) (0, first_body a v) [] (first_type, refl, typed)
        (All-nil (λ f. IsValidFunction (context_of m) f.0 f.1));
  }

pub first_modules_are_valid : FirstModulesAreValid
first_modules_are_valid a v = is_valid a v
