-- The grammar of instructions and expressions (Core specification 1.0, sections 5.3.1, 5.3.2 and 5.4; threads proposal,
-- section "Binary format").
use Rattle.std.specs.Prelude.{◌≡◌, ℕ, List, [], ◌∷◌, Option, Some, None, Ok}
use Rattle.binary_wire.specs.Grammar.{Spelling, IsU32, IsS32, IsS64, IsVector}
use Rattle.types.specs.declared.value.ValType.{ValType}
use Rattle.types.specs.declared.value.ValType.TheVariants as types
use Rattle.types.specs.declared.value.Value.TheVariants as values
use Rattle.types.specs.declared.operators.MemArg.{MemArg}
use Rattle.types.specs.declared.instr.Instr.{Instr}
use Rattle.types.specs.declared.instr.Instr.TheVariants as instrs
use Rattle.types.specs.declared.instr.PlainInstr.TheVariants as plain
use Rattle.types.specs.Nesting.{IsExpression}
use Rattle.binary_instructions.specs.declared.opcodes.Shape.{Shape}
use Rattle.binary_instructions.specs.declared.opcodes.Shape.TheVariants as shapes
use Rattle.binary_instructions.specs.declared.opcodes.AtomicShape.{AtomicShape}
use Rattle.binary_instructions.specs.declared.opcodes.AtomicShape.TheVariants as atomics
use Rattle.binary_instructions.specs.Opcodes.{opcode, atomic_number}
use Rattle.binary_instructions.specs.Instructions.{opening, bare_instr, index_instr, const_instr}

-- A byte, and the type that it stands for.
abbrev pub IsValType : Spelling ValType
IsValType bytes types.I32 rest = bytes ≡ 0x7f ∷ rest
IsValType bytes types.I64 rest = bytes ≡ 0x7e ∷ rest

abbrev pub IsBlockType : Spelling (Option ValType)
IsBlockType bytes None rest = bytes ≡ 0x40 ∷ rest
IsBlockType bytes (Some t) rest = IsValType bytes t rest

-- The alignment, and the offset.
abbrev pub IsMemArg : Spelling MemArg
IsMemArg bytes m rest = (mid : List ℕ) × IsU32 bytes m.align mid × IsU32 mid m.offset rest

-- A byte that is kept for later versions.
abbrev pub IsReserved : List ℕ → List ℕ → Type 0
IsReserved bytes rest = bytes ≡ 0x00 ∷ rest

-- What stands behind the number of an atomic instruction.
abbrev pub IsAtomicShaped : AtomicShape → Spelling Instr
IsAtomicShaped (atomics.Access op) bytes i rest = (m : MemArg) × IsMemArg bytes m rest
    × (i ≡ instrs.Plain (plain.Atomic op m))
IsAtomicShaped atomics.Fence bytes i rest = IsReserved bytes rest × (i ≡ instrs.Plain plain.Fence)

-- A number in any spelling, and what stands behind it.
abbrev pub IsAtomic : Spelling Instr
IsAtomic bytes i rest = (n : ℕ) × (mid : List ℕ) × IsU32 bytes n mid
    × ((shape : AtomicShape) × (atomic_number n ≡ Some shape) × IsAtomicShaped shape mid i rest)

-- A signed number, which the instruction has in two's complement.
abbrev pub IsConst : ValType → Spelling Instr
IsConst types.I32 bytes i rest = (n : ℕ) × IsS32 bytes n rest × (i ≡ const_instr (values.I32 n))
IsConst types.I64 bytes i rest = (n : ℕ) × IsS64 bytes n rest × (i ≡ const_instr (values.I64 n))

-- Labels, and the default label.
abbrev pub IsBrTable : Spelling Instr
IsBrTable bytes i rest = (labels : List ℕ) × (mid : List ℕ) × IsVector 0xffff_ffff IsU32 bytes labels mid
    × ((default : ℕ) × IsU32 mid default rest × (i ≡ instrs.Plain (plain.BrTable default labels)))

-- What stands behind an opcode.
abbrev pub IsShaped : Shape → Spelling Instr
IsShaped (shapes.Open op) bytes i rest = (t : Option ValType) × IsBlockType bytes t rest × (i ≡ opening op t)
IsShaped shapes.Else bytes i rest = (i ≡ instrs.Else) × (rest ≡ bytes)
IsShaped shapes.End bytes i rest = (i ≡ instrs.End) × (rest ≡ bytes)
IsShaped (shapes.Bare op) bytes i rest = (i ≡ instrs.Plain (bare_instr op)) × (rest ≡ bytes)
IsShaped (shapes.Numeric op) bytes i rest = (i ≡ instrs.Plain (plain.Numeric op)) × (rest ≡ bytes)
IsShaped (shapes.Const t) bytes i rest = IsConst t bytes i rest
IsShaped (shapes.Index op) bytes i rest = (n : ℕ) × IsU32 bytes n rest × (i ≡ instrs.Plain (index_instr op n))
IsShaped shapes.BrTable bytes i rest = IsBrTable bytes i rest
IsShaped shapes.CallIndirect bytes i rest = (n : ℕ) × (mid : List ℕ) × IsU32 bytes n mid
    × (IsReserved mid rest × (i ≡ instrs.Plain (plain.CallIndirect n)))
IsShaped (shapes.Load op) bytes i rest = (m : MemArg) × IsMemArg bytes m rest × (i ≡ instrs.Plain (plain.Load op m))
IsShaped (shapes.Store width) bytes i rest = (m : MemArg) × IsMemArg bytes m rest
    × (i ≡ instrs.Plain (plain.Store width m))
IsShaped shapes.MemorySize bytes i rest = IsReserved bytes rest × (i ≡ instrs.Plain plain.MemorySize)
IsShaped shapes.MemoryGrow bytes i rest = IsReserved bytes rest × (i ≡ instrs.Plain plain.MemoryGrow)
IsShaped shapes.Atomic bytes i rest = IsAtomic bytes i rest

-- An opcode, and what stands behind it.
abbrev pub IsInstr : Spelling Instr
IsInstr [] i rest = ⊥
IsInstr (code ∷ bytes) i rest = (shape : Shape) × (opcode code ≡ Ok shape) × IsShaped shape bytes i rest

-- Instructions one after another.
abbrev pub AreInstrs : Spelling (List Instr)
AreInstrs bytes [] rest = rest ≡ bytes
AreInstrs bytes (i ∷ code) rest = (mid : List ℕ) × IsInstr bytes i mid × AreInstrs mid code rest

-- An expression: instructions that are nested blocks with a final end (Core specification 1.0, section 5.4.6).
abbrev pub SpellsExpression : Spelling (List Instr)
SpellsExpression bytes code rest = AreInstrs bytes code rest × IsExpression code
