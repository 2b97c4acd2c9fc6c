-- The code of a module of one atomic add, read.
use Rattle.std.proofs.Common.{◌≡◌, ℕ, suc, ◌<◌, Bool, false, List, [], ◌∷◌, Result, Ok, Err, refl, ◌∙◌, ap, arith}
use Rattle.std.specs.Prelude.{nat_lt}
use Rattle.std.proofs.lemmas.Bool.{cond-true, lt-ltb}
use Rattle.types.specs.declared.value.ValType.TheVariants as types
use Rattle.types.specs.declared.value.Value.TheVariants as values
use Rattle.types.specs.declared.event.RmwOp.TheVariants as ops
use Rattle.types.specs.declared.operators.AccessWidth.TheVariants as access
use Rattle.types.specs.declared.operators.AtomicOp.TheVariants as atomic
use Rattle.types.specs.declared.instr.Instr.{Instr}
use Rattle.types.specs.declared.instr.Instr.TheVariants as instrs
use Rattle.types.specs.declared.instr.PlainInstr.TheVariants as plain
use Rattle.binary_wire.specs.declared.bounds.Bounds.{Bounds}
use Rattle.binary_wire.specs.declared.fault.Fault.TheVariants as kinds
use Rattle.binary_wire.specs.declared.fault.Refusal.{Refusal}
use Rattle.binary_wire.specs.Faults.{refusal, offset_of}
use Rattle.binary_wire.specs.Reading.{◌>>=◌, s32_at, signed_at, unsigned_at}
use Rattle.binary_instructions.specs.Instructions.{const_instr}
use Rattle.binary_instructions.specs.Opcodes.{opcode, atomic_number}
use Rattle.binary_instructions.specs.Reading.{instr_at, shape_at, shaped_at, const_at, kept_at, each_kept_at, code_at}
use Rattle.binary_instructions.specs.Reading.{expression_at, atomic_at, atomic_shaped_at, memarg_at}
use Rattle.report_first.specs.First.{first_code, whole_word}

-- a number below 64 is one byte
pub small : (s : Bounds) (n : ℕ) (rest : List ℕ) → n < 64 → s32_at s (n ∷ rest) ≡ Ok (n, rest)
unfolding signed_at
small s n rest below =
    cond-true (nat_lt n 64) _ _ (lt-ltb n 64 below)
    ∙ cond-true (nat_lt n 0x8000_0000) (Ok (n, rest)) (Err (refusal kinds.Number (offset_of s (n ∷ rest)))) (lt-ltb n 0x8000_0000 (omega arith))

abbrev with_others : ℕ → Bounds → Result ((Instr × List Bool) × List ℕ) Refusal → Result (List Instr × List ℕ) Refusal
with_others most s r = r >>= λ first. code_at most first.0.1 s first.1 >>= λ others. Ok (first.0.0 ∷ others.0, others.1)

abbrev of_number : Result (ℕ × List ℕ) Refusal → Result (Instr × List ℕ) Refusal
of_number r = r >>= λ x. Ok (const_instr (values.I32 x.0), x.1)

abbrev with_block : Result (Instr × List ℕ) Refusal → Result ((Instr × List Bool) × List ℕ) Refusal
with_block r = r >>= λ i. Ok ((i.0, false ∷ []), i.1)

constant : (s : Bounds) (n : ℕ) (rest : List ℕ) → n < 64 → instr_at (false ∷ []) s (0x41 ∷ n ∷ rest) ≡ Ok ((const_instr (values.I32 n), false ∷ []), rest)
unfolding instr_at shape_at shaped_at const_at opcode
constant s n rest below =
    ap (λ (r : Result (ℕ × List ℕ) Refusal). with_block (of_number r)) (small s n rest below)

abbrev with_first : Instr → Result (List Instr × List ℕ) Refusal → Result (List Instr × List ℕ) Refusal
with_first i r = r >>= λ others. Ok (i ∷ others.0, others.1)

behind : (most : ℕ) (s : Bounds) (n : ℕ) (rest : List ℕ) (code : List Instr) → n < 64 → code_at most (false ∷ []) s rest ≡ Ok (code, [])
    → code_at (suc most) (false ∷ []) s (0x41 ∷ n ∷ rest) ≡ Ok (const_instr (values.I32 n) ∷ code, [])
unfolding kept_at
behind most s n rest code below is =
    ap (with_others most s) (constant s n rest below)
    ∙ ap (with_first (const_instr (values.I32 n))) is

abbrev add_bytes : List ℕ
add_bytes = 0xfe ∷ 0x1e ∷ 0x02 ∷ 0x00 ∷ 0x0b ∷ []

abbrev add_code : List Instr
add_code = instrs.Plain (plain.Atomic (atomic.Rmw ops.Add (access.Whole types.I32)) whole_word) ∷ instrs.End ∷ []

add_read : (s : Bounds) → code_at 7 (false ∷ []) s add_bytes ≡ Ok (add_code, [])
unfolding kept_at instr_at shape_at shaped_at atomic_at atomic_shaped_at memarg_at unsigned_at opcode atomic_number
add_read s = refl

abbrev pub code_bytes : ℕ → ℕ → List ℕ
code_bytes a v = 0x41 ∷ a ∷ 0x41 ∷ v ∷ add_bytes

pub code_read : (s : Bounds) (a v : ℕ) → a < 64 → v < 64 → expression_at s (code_bytes a v) ≡ Ok (first_code a v, [])
unfolding expression_at each_kept_at
code_read s a v below small_too =
    behind 8 s a (0x41 ∷ v ∷ add_bytes) (const_instr (values.I32 v) ∷ add_code) below (behind 7 s v add_bytes add_code small_too (add_read s))
