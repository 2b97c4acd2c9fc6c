-- Instructions and expressions, read from left to right: the value, or the first fault with its offset.
use Rattle.std.specs.Prelude.{ℕ, zero, suc, ◌+◌, List, [], ◌∷◌, length, reverse, Bool, true, false, Option, Some, None}
use Rattle.std.specs.Prelude.{Result, Ok}
use Rattle.std.specs.Prelude.{Err, nat_eq, nat_lt, if◌then◌else◌}
use Rattle.binary_wire.specs.declared.fault.Refusal.{Refusal}
use Rattle.binary_wire.specs.declared.fault.ReadFault.{ReadFault}
use Rattle.binary_wire.specs.declared.reader.Reader.{Reader}
use Rattle.binary_wire.specs.Faults.{refusal, offset_of, refused, missing}
use Rattle.binary_wire.specs.Reading.{Reading, ◌>>=◌, GivesInMemory, GivesNextInMemoryAs}
use Rattle.binary_wire.specs.Reading.{some_or, byte_at, front_is, tag_at, u32_at, s32_at, s64_at, vector_at}
use Rattle.types.specs.declared.value.ValType.{ValType}
use Rattle.types.specs.declared.value.ValType.TheVariants as types
use Rattle.types.specs.declared.value.Value.TheVariants as values
use Rattle.types.specs.declared.operators.MemArg.{MemArg}
use Rattle.types.specs.declared.instr.Instr.{Instr}
use Rattle.types.specs.declared.instr.Instr.TheVariants as instrs
use Rattle.binary_wire.specs.declared.fault.Fault.{Fault}
use Rattle.binary_wire.specs.declared.fault.Fault.TheVariants as kinds
use Rattle.types.specs.declared.instr.PlainInstr.TheVariants as plain
use Rattle.types.specs.declared.limits.TheConstants.{MOST_NESTED}
use Rattle.binary_instructions.specs.declared.opcodes.Opener.{Opener}
use Rattle.binary_instructions.specs.declared.opcodes.Opener.TheVariants as openers
use Rattle.binary_instructions.specs.declared.opcodes.Shape.{Shape}
use Rattle.binary_instructions.specs.declared.opcodes.Shape.TheVariants as shapes
use Rattle.binary_instructions.specs.declared.opcodes.AtomicShape.{AtomicShape}
use Rattle.binary_instructions.specs.declared.opcodes.AtomicShape.TheVariants as atomics
use Rattle.binary_instructions.specs.Opcodes.{opcode, atomic_number}
use Rattle.binary_instructions.specs.Instructions.{opening, bare_instr, index_instr, const_instr}

-- What a test of the byte at an offset finds.
abbrev pub known_at : {A : Type 0} → ℕ → Result A Fault → Result A Refusal
known_at offset (Ok x) = Ok x
known_at offset (Err kind) = Err (refusal kind offset)

-- The type that a byte stands for, or why there is none: 7d and 7c are the types of floats.
abbrev pub val_type_of : ℕ → Result ValType Fault
val_type_of b =
    if nat_eq b 0x7f then Ok types.I32 else (if nat_eq b 0x7e then Ok types.I64
    else (if nat_eq b 0x7d then Err kinds.Float else
    (if nat_eq b 0x7c then Err kinds.Float else Err kinds.UnknownByte)))

unfoldable pub val_type_at : Reading ValType
val_type_at s bytes = do
  b ← byte_at s bytes
  t ← known_at (offset_of s bytes) (val_type_of b.0)
  Ok (t, b.1)

-- The byte 40 alone, or a type.
unfoldable pub block_type_at : Reading (Option ValType)
block_type_at s bytes =
    if front_is 0x40 bytes then (byte_at s bytes >>= λ b. Ok (None, b.1))
    else (val_type_at s bytes >>= λ t. Ok (Some t.0, t.1))

unfoldable pub memarg_at : Reading MemArg
memarg_at s bytes = do
  align ← u32_at s bytes
  offset ← u32_at s align.1
  Ok (record { align = align.0; offset = offset.0 }, offset.1)

-- A reserved byte.
unfoldable pub reserved_at : Instr → Reading Instr
reserved_at i s bytes = tag_at kinds.UnknownByte 0x00 s bytes >>= λ rest. Ok (i, rest)

unfoldable pub atomic_shaped_at : AtomicShape → Reading Instr
atomic_shaped_at (atomics.Access op) s bytes = memarg_at s bytes >>= λ m. Ok (instrs.Plain (plain.Atomic op m.0), m.1)
atomic_shaped_at atomics.Fence s bytes = reserved_at (instrs.Plain plain.Fence) s bytes

-- A number that means nothing is refused at its first byte.
unfoldable pub atomic_at : Reading Instr
atomic_at s bytes = do
  n ← u32_at s bytes
  shape ← some_or (refused kinds.UnknownByte s bytes) (atomic_number n.0)
  atomic_shaped_at shape s n.1

unfoldable pub const_at : ValType → Reading Instr
const_at types.I32 s bytes = s32_at s bytes >>= λ n. Ok (const_instr (values.I32 n.0), n.1)
const_at types.I64 s bytes = s64_at s bytes >>= λ n. Ok (const_instr (values.I64 n.0), n.1)

unfoldable pub br_table_at : Reading Instr
br_table_at s bytes = do
  labels ← vector_at 0xffff_ffff u32_at s bytes
  default ← u32_at s labels.1
  Ok (instrs.Plain (plain.BrTable default.0 labels.0), default.1)

unfoldable pub call_indirect_at : Reading Instr
call_indirect_at s bytes = do
  n ← u32_at s bytes
  reserved_at (instrs.Plain (plain.CallIndirect n.0)) s n.1

-- What stands behind an opcode.
unfoldable pub shaped_at : Shape → Reading Instr
shaped_at (shapes.Open op) s bytes = block_type_at s bytes >>= λ t. Ok (opening op t.0, t.1)
shaped_at shapes.Else s bytes = Ok (instrs.Else, bytes)
shaped_at shapes.End s bytes = Ok (instrs.End, bytes)
shaped_at (shapes.Bare op) s bytes = Ok (instrs.Plain (bare_instr op), bytes)
shaped_at (shapes.Numeric op) s bytes = Ok (instrs.Plain (plain.Numeric op), bytes)
shaped_at (shapes.Const t) s bytes = const_at t s bytes
shaped_at (shapes.Index op) s bytes = u32_at s bytes >>= λ n. Ok (instrs.Plain (index_instr op n.0), n.1)
shaped_at shapes.BrTable s bytes = br_table_at s bytes
shaped_at shapes.CallIndirect s bytes = call_indirect_at s bytes
shaped_at (shapes.Load op) s bytes = memarg_at s bytes >>= λ m. Ok (instrs.Plain (plain.Load op m.0), m.1)
shaped_at (shapes.Store width) s bytes = memarg_at s bytes >>= λ m. Ok (instrs.Plain (plain.Store width m.0), m.1)
shaped_at shapes.MemorySize s bytes = reserved_at (instrs.Plain plain.MemorySize) s bytes
shaped_at shapes.MemoryGrow s bytes = reserved_at (instrs.Plain plain.MemoryGrow) s bytes
shaped_at shapes.Atomic s bytes = atomic_at s bytes

-- The shape of an opcode.
unfoldable pub shape_at : Reading Shape
shape_at s bytes = do
  code ← byte_at s bytes
  shape ← known_at (offset_of s bytes) (opcode code.0)
  Ok (shape, code.1)

abbrev pub is_if : Opener → Bool
is_if openers.If = true
is_if _ = false

-- One block more is open. The expression itself is one that its end closes, in which so many are nested at most.
abbrev pub entered : ℕ → Bool → List Bool → Result (List Bool) Refusal
entered offset may_divide opens =
    if nat_lt (length opens) (MOST_NESTED + 1) then Ok (may_divide ∷ opens) else Err (refusal kinds.Limit offset)

-- The blocks that are open behind an instruction of a shape, whose opcode is at an offset, the innermost first; of each
-- is kept whether it is an if that may still have an else.
abbrev pub stacked : ℕ → List Bool → Shape → Result (List Bool) Refusal
stacked offset opens (shapes.Open op) = entered offset (is_if op) opens
stacked offset [] shapes.Else = Err (refusal kinds.UnknownByte offset)
stacked offset (may_divide ∷ opens) shapes.Else =
    if may_divide then Ok (false ∷ opens) else Err (refusal kinds.UnknownByte offset)
stacked offset [] shapes.End = Err (refusal kinds.UnknownByte offset)
stacked offset (may_divide ∷ opens) shapes.End = Ok opens
stacked offset opens _ = Ok opens

-- What code answers that enters, divides or leaves a block, and keeps the open blocks with the innermost last.
abbrev pub GivesBlocks : {X : Type 0} → ℕ → Shape → List Bool → List Bool → Result X ReadFault → Type 0
GivesBlocks offset shape old new result = GivesInMemory (λ _. reverse new) result (stacked offset (reverse old) shape)

-- An instruction, and the blocks that are open behind it.
unfoldable pub instr_at : List Bool → Reading (Instr × List Bool)
instr_at opens s bytes = do
  shape ← shape_at s bytes
  inside ← stacked (offset_of s bytes) opens shape.0
  instr ← shaped_at shape.0 s shape.1
  Ok ((instr.0, inside), instr.1)

-- What code answers that reads the next instruction, and keeps the open blocks with the innermost last.
abbrev pub GivesInstr : List Bool → List Bool → Reader → Reader → Result Instr ReadFault → Type 0
GivesInstr opens inside old new result =
    GivesNextInMemoryAs (λ i. (i, reverse inside)) (instr_at (reverse opens)) old new result

-- What is kept of instructions, each by its offset, until no block is open: of at most so many.
unfoldable pub kept_at : {A : Type 0} → (ℕ → Instr → A) → ℕ → List Bool → Reading (List A)
kept_at kept most [] s bytes = Ok ([], bytes)
kept_at kept zero (may_divide ∷ opens) s bytes = Err (missing s)
kept_at kept (suc most) (may_divide ∷ opens) s bytes = do
  first ← instr_at (may_divide ∷ opens) s bytes
  others ← kept_at kept most first.0.1 s first.1
  Ok (kept (offset_of s bytes) first.0.0 ∷ others.0, others.1)

-- What is kept of an expression's instructions. Each instruction takes a byte at least.
unfoldable pub each_kept_at : {A : Type 0} → (ℕ → Instr → A) → Reading (List A)
each_kept_at kept s bytes = kept_at kept (length bytes) (false ∷ []) s bytes

-- Instructions until no block is open, at most so many.
abbrev pub code_at : ℕ → List Bool → Reading (List Instr)
code_at most opens s bytes = kept_at (λ offset instr. instr) most opens s bytes

unfoldable pub expression_at : Reading (List Instr)
expression_at s bytes = each_kept_at (λ offset instr. instr) s bytes
