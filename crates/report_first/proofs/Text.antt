-- The bytes of a module of one atomic add, read.
use Rattle.std.proofs.Common.{◌≡◌, ℕ, ◌<◌, true, Some, None, List, length, [], ◌∷◌, Result, Ok, Err, refl, sym, ◌∙◌, ap, subst}
use Rattle.types.specs.declared.instr.Instr.{Instr}
use Rattle.types.specs.declared.parts.Limits.{Limits}
use Rattle.types.specs.declared.parts.Export.{Export}
use Rattle.types.specs.declared.parts.Body.{Body}
use Rattle.binary_wire.specs.declared.bounds.Bounds.{Bounds}
use Rattle.binary_wire.specs.declared.fault.Refusal.{Refusal}
use Rattle.std.specs.Str.{is_utf8, chars}
use lib.Utf8.{encode}
use Rattle.std.specs.Prelude.{nat_eq, if◌then◌else◌, codes}
use Rattle.binary_wire.specs.Faults.{refused, inside, input}
use Rattle.binary_wire.specs.Reading.{◌>>=◌, unsigned_at, u32_within_at, end_at, block_at, sized_at, items_at, vector_at, name_at}
use Rattle.binary_instructions.specs.Reading.{val_type_at}
use Rattle.binary.specs.Reading.{block_within_at, body_contents_at, locals_at, groups_at, body_at, bodies_at, code_section_at, part_at, section_at}
use Rattle.binary.specs.Reading.{code_at, contents_at, customs_at, last_at, sections_at, signatures_at, stores_at, func_type_at, memory_at, coded_at}
use Rattle.binary.specs.Reading.{global_at, data_at, finish_at, parts_of, limits_after_at, export_at, export_desc_at, start_at, opening_at, fixed_at, module_at}
use Rattle.binary_wire.specs.declared.fault.Fault.TheVariants as faults
use Rattle.types.specs.declared.parts.ExportDesc.TheVariants as exports
use Rattle.types.specs.declared.limits.TheConstants.{MOST_ITEMS}
use Rattle.binary.specs.Grammar.{IsModuleText}
use Rattle.binary.proofs.Modules.{module_takes, is_one}
use Rattle.report_first.specs.First.{first_module, first_type, first_body, first_parts, IsFirstModule}
use Rattle.report_first.specs.Laws.{FirstModulesAreRead}
use Rattle.report_first.proofs.Body.{code_bytes, code_read}

abbrev body_bytes : ℕ → ℕ → List ℕ
body_bytes a v = 0x0a ∷ 0x00 ∷ code_bytes a v

abbrev with_locals : Result (List Instr × List ℕ) Refusal → Result (Body × List ℕ) Refusal
with_locals r = r >>= λ code. Ok (record { locals = []; code = code.0 }, code.1)

abbrev of_size : Bounds → Result (Body × List ℕ) Refusal → Result (Body × List ℕ) Refusal
of_size s r = r >>= λ b. end_at s b.1 >>= λ whole. Ok (b.0, [])

abbrev with_rest : Result (Body × List ℕ) Refusal → Result (List Body × List ℕ) Refusal
with_rest r = r >>= λ first. Ok (first.0 ∷ [], first.1)

abbrev of_section : Bounds → Result (List Body × List ℕ) Refusal → Result (List Body × List ℕ) Refusal
of_section s r = r >>= λ x. end_at s x.1 >>= λ whole. Ok (x.0, [])

abbrev one_memory : Limits
one_memory = record { min = 1; max = Some 1; shared = true }

abbrev the_export : Export
the_export = record { name = codes "f"; desc = exports.Func 0 }

-- an equation in its place
along : {A B : Type 0} {x y : A} → x ≡ y → (f : A → B) → f x ≡ f y
along e f = ap f e

module _ (a v : ℕ) (below : a < 64) (small : v < 64) where
  body_read : (s : Bounds) → body_at 0 s (body_bytes a v) ≡ Ok (first_body a v, [])
  unfolding body_at block_within_at body_contents_at locals_at groups_at u32_within_at unsigned_at
  body_read s = ap (λ r. of_size (inside s []) (with_locals r)) (code_read (inside s []) a v below small)

  abbrev section_bytes : List ℕ
  section_bytes = 0x01 ∷ body_bytes a v

  section_read : (s : Bounds) → code_section_at (first_type ∷ []) (0 ∷ []) s section_bytes ≡ Ok (first_body a v ∷ [], [])
  unfolding code_section_at bodies_at unsigned_at
  section_read s = ap (λ r. with_rest r) (body_read s)

  code_read_whole : (s : Bounds) → code_at (first_type ∷ []) (0 ∷ []) s (0x0a ∷ 0x0c ∷ section_bytes) ≡ Ok (first_body a v ∷ [], [])
  unfolding code_at part_at customs_at sized_at block_at unsigned_at
  code_read_whole s = ap (of_section (inside s [])) (section_read (inside s []))

  contents_read : (s : Bounds) → contents_at (first_type ∷ []) (0 ∷ []) s (0x0a ∷ 0x0c ∷ section_bytes)
      ≡ Ok (record { elements = []; bodies = first_body a v ∷ []; «data» = [] }, [])
  unfolding contents_at section_at part_at customs_at
  contents_read s =
      along (code_read_whole s) (λ r. r >>= λ bodies. section_at 11 MOST_ITEMS data_at s bodies.1 >>= λ segments. Ok
      (record { elements = []; bodies = bodies.0; «data» = segments.0 }, segments.1))

  -- ---- the sections

  abbrev tail_bytes : List ℕ
  tail_bytes = 0x0a ∷ 0x0c ∷ section_bytes

  abbrev exports_bytes : List ℕ
  exports_bytes = 0x07 ∷ 0x05 ∷ 0x01 ∷ 0x01 ∷ 0x66 ∷ 0x00 ∷ 0x00 ∷ tail_bytes

  abbrev stores_bytes : List ℕ
  stores_bytes = 0x05 ∷ 0x04 ∷ 0x01 ∷ 0x03 ∷ 0x01 ∷ 0x01 ∷ exports_bytes

  abbrev types_bytes : List ℕ
  types_bytes = 0x01 ∷ 0x05 ∷ 0x01 ∷ 0x60 ∷ 0x00 ∷ 0x01 ∷ 0x7f ∷ 0x03 ∷ 0x02 ∷ 0x01 ∷ 0x00 ∷ stores_bytes

  signatures_read : (s : Bounds) → signatures_at s types_bytes
      ≡ Ok (record { types = first_type ∷ []; imports = []; functions = 0 ∷ [] }, stores_bytes)
  unfolding signatures_at section_at part_at customs_at sized_at block_at unsigned_at vector_at items_at u32_within_at func_type_at val_type_at
  signatures_read s = refl

  memories_read : (s : Bounds) → section_at 5 MOST_ITEMS memory_at s stores_bytes ≡ Ok (one_memory ∷ [], exports_bytes)
  unfolding section_at part_at customs_at sized_at block_at unsigned_at vector_at items_at u32_within_at memory_at coded_at limits_after_at
  memories_read s = refl

  stores_read : (s : Bounds) → stores_at s stores_bytes
      ≡ Ok (record { tables = []; memories = one_memory ∷ []; globals = []; exports = the_export ∷ []; start = None }, tail_bytes)
  unfolding stores_at section_at part_at customs_at sized_at block_at unsigned_at vector_at items_at u32_within_at export_at name_at export_desc_at start_at
      is_utf8 chars encode memory_at coded_at
  stores_read s =
      along (memories_read s) (λ r. r >>= λ memories. section_at 6 MOST_ITEMS global_at s memories.1 >>= λ globals.
      section_at 7 MOST_ITEMS export_at s globals.1 >>= λ exported. start_at s exported.1 >>= λ start.
      Ok (record { tables = []; memories = memories.0; globals = globals.0; exports = exported.0; start = start.0 }, start.1))

  last_read : (s : Bounds) → last_at (first_type ∷ []) (0 ∷ []) s tail_bytes
      ≡ Ok (record { elements = []; bodies = first_body a v ∷ []; «data» = [] })
  unfolding last_at customs_at
  last_read s =
      along (contents_read s) (λ r. r >>= λ contents. customs_at (length contents.1) s contents.1 >>= λ rest. finish_at s rest >>= λ whole.
      if nat_eq 1 (length contents.0.bodies) then Ok contents.0 else Err (refused faults.CountsDiffer s rest))

  -- what is left to do behind each of them
  sections_read : (s : Bounds) → sections_at 46 s types_bytes ≡ Ok (first_parts a v)
  unfolding sections_at
  sections_read s =
      along (signatures_read s) (λ r. r >>= λ before. stores_at s before.1 >>= λ middle.
      last_at before.0.types before.0.functions s middle.1 >>= λ contents. Ok (parts_of 46 before.0 middle.0 contents))
      ∙ (along (stores_read s) (λ r. r >>= λ middle. last_at (first_type ∷ []) (0 ∷ []) s middle.1 >>= λ contents.
      Ok (parts_of 46 (record { types = first_type ∷ []; imports = []; functions = 0 ∷ [] }) middle.0 contents))
      ∙ along (last_read s) (λ r. r >>= λ contents.
      Ok (parts_of 46 (record { types = first_type ∷ []; imports = []; functions = 0 ∷ [] })
      (record { tables = []; memories = one_memory ∷ []; globals = []; exports = the_export ∷ []; start = None }) contents)))

  pub module_read : module_at (first_module a v) ≡ Ok (first_parts a v)
  unfolding module_at opening_at fixed_at
  module_read = sections_read (input (first_module a v))

-- ---- and spelled

pub is_read : (bytes : List ℕ) (a v : ℕ) → IsFirstModule bytes a v → IsModuleText bytes (first_parts a v)
is_read bytes a v first =
    module_takes bytes (first_parts a v) (ap module_at first.spelled ∙ module_read a v first.address_below first.addend_below)

pub first_modules_are_read : FirstModulesAreRead
first_modules_are_read bytes a v m first =
    let read : IsModuleText bytes (first_parts a v) = is_read bytes a v first in
    ((λ text. is_one bytes m (first_parts a v) text read), (λ same. subst (IsModuleText bytes) (sym same) read))
