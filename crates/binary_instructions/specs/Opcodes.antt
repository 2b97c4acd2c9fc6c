-- Which instruction an opcode begins (Core specification 1.0, section 5.4, with the sign extensions of 2.0), and a
-- number behind the prefix of atomic instructions (threads proposal, section "Binary format").
use Rattle.std.specs.Prelude.{ℕ, zero, suc, ◌-◌, List, [], ◌∷◌, ◌++◌, map, Option, Some, None, Result, Ok, Err}
use Rattle.std.specs.Prelude.{nat_lt, if◌then◌else◌, slice_index_or}
use Rattle.binary_wire.specs.declared.fault.Fault.{Fault}
use Rattle.binary_wire.specs.declared.fault.Fault.TheVariants as kinds
use Rattle.types.specs.declared.value.ValType.{ValType}
use Rattle.types.specs.declared.value.ValType.TheVariants as types
use Rattle.types.specs.declared.event.RmwOp.TheVariants as rmw
use Rattle.types.specs.declared.operators.UnaryOp.TheVariants as unary
use Rattle.types.specs.declared.operators.BinaryOp.TheVariants as binary
use Rattle.types.specs.declared.operators.CompareOp.TheVariants as compare
use Rattle.types.specs.declared.operators.ConvertOp.TheVariants as convert
use Rattle.types.specs.declared.operators.NumericInstr.TheVariants as numeric
use Rattle.types.specs.declared.operators.NarrowWidth.{NarrowWidth}
use Rattle.types.specs.declared.operators.NarrowWidth.TheVariants as narrow
use Rattle.types.specs.declared.operators.AccessWidth.{AccessWidth}
use Rattle.types.specs.declared.operators.AccessWidth.TheVariants as access
use Rattle.types.specs.declared.operators.LoadOp.TheVariants as load
use Rattle.types.specs.declared.operators.AtomicOp.{AtomicOp}
use Rattle.types.specs.declared.operators.AtomicOp.TheVariants as atomic
use Rattle.binary_instructions.specs.declared.opcodes.Opener.TheVariants as openers
use Rattle.binary_instructions.specs.declared.opcodes.BareInstr.TheVariants as bare
use Rattle.binary_instructions.specs.declared.opcodes.IndexInstr.TheVariants as index
use Rattle.binary_instructions.specs.declared.opcodes.Shape.{Shape}
use Rattle.binary_instructions.specs.declared.opcodes.Shape.TheVariants as shapes
use Rattle.binary_instructions.specs.declared.opcodes.AtomicShape.{AtomicShape}
use Rattle.binary_instructions.specs.declared.opcodes.AtomicShape.TheVariants as atomics

-- Instructions whose opcodes follow one another: the first opcode, and the instructions in order.
pub record Group (A : Type 0) : Type 0 where
  pub first : ℕ
  pub members : List A

abbrev pub from : {A : Type 0} → ℕ → List A → Group A
from first members = record { first = first; members = members }

-- What a code stands for, by the one group that has it.
abbrev pub among : {A : Type 0} → List (Group A) → A → ℕ → A
among [] other code = other
among (g ∷ groups) other code = if nat_lt code g.first then among groups other code else slice_index_or g.members
    (code - g.first) (among groups other code)

abbrev pub Opcode : Type 0
Opcode = Result Shape Fault

abbrev pub instr : Shape → Opcode
instr shape = Ok shape

-- So many opcodes of floats, which are left out.
abbrev pub floats : ℕ → List Opcode
floats zero = []
floats (suc n) = Err kinds.Float ∷ floats n

-- Section 5.4.1.
abbrev pub blocks : List Opcode
blocks = map (λ s. instr s) (shapes.Bare bare.Unreachable ∷ shapes.Bare bare.Nop ∷ shapes.Open openers.Block ∷
    shapes.Open openers.Loop ∷ shapes.Open openers.If ∷ shapes.Else ∷ [])

abbrev pub branches : List Opcode
branches = map (λ s. instr s) (shapes.End ∷ shapes.Index index.Br ∷ shapes.Index index.BrIf ∷ shapes.BrTable ∷
    shapes.Bare bare.Return ∷ shapes.Index index.Call ∷ shapes.CallIndirect ∷ [])

-- Section 5.4.2.
abbrev pub parametric : List Opcode
parametric = map (λ s. instr s) (shapes.Bare bare.Drop ∷ shapes.Bare bare.Select ∷ [])

-- Section 5.4.3.
abbrev pub variables : List Opcode
variables = map (λ i. instr (shapes.Index i)) (index.LocalGet ∷ index.LocalSet ∷ index.LocalTee ∷ index.GlobalGet
    ∷ index.GlobalSet ∷ [])

-- Section 5.4.4.
abbrev pub signed_load : NarrowWidth → Opcode
signed_load width = instr (shapes.Load (load.SignExtend width))

abbrev pub unsigned_load : AccessWidth → Opcode
unsigned_load width = instr (shapes.Load (load.ZeroExtend width))

-- The narrow loads of a width: signed, then unsigned.
abbrev pub narrow_loads : NarrowWidth → List Opcode
narrow_loads width = signed_load width ∷ unsigned_load (access.Narrow width) ∷ []

abbrev pub loads : List Opcode
loads =
    unsigned_load (access.Whole types.I32) ∷ unsigned_load (access.Whole types.I64) ∷ floats 2
    ++ narrow_loads narrow.I32Bits8 ++ narrow_loads narrow.I32Bits16
    ++ narrow_loads narrow.I64Bits8 ++ narrow_loads narrow.I64Bits16 ++ narrow_loads narrow.I64Bits32

abbrev pub store : AccessWidth → Opcode
store width = instr (shapes.Store width)

-- The widths below a type's own: first those of i32, then those of i64, the narrower first.
abbrev pub narrow_widths : List AccessWidth
narrow_widths = map (λ w. access.Narrow w) (narrow.I32Bits8 ∷ narrow.I32Bits16 ∷ narrow.I64Bits8 ∷ narrow.I64Bits16
    ∷ narrow.I64Bits32 ∷ [])

abbrev pub whole_widths : List AccessWidth
whole_widths = access.Whole types.I32 ∷ access.Whole types.I64 ∷ []

abbrev pub stores : List Opcode
stores = map (λ w. store w) whole_widths ++ floats 2 ++ map (λ w. store w) narrow_widths

abbrev pub sizes : List Opcode
sizes = instr shapes.MemorySize ∷ instr shapes.MemoryGrow ∷ []

-- Section 5.4.5.
abbrev pub constants : List Opcode
constants = instr (shapes.Const types.I32) ∷ instr (shapes.Const types.I64) ∷ floats 2

-- The test and the comparisons of a type.
abbrev pub comparisons : ValType → List Opcode
comparisons t = instr (shapes.Numeric (numeric.Test t)) ∷ map (λ op. instr (shapes.Numeric (numeric.Compare t op)))
    (compare.Eq ∷ compare.Ne ∷ compare.LtS ∷ compare.LtU ∷ compare.GtS ∷ compare.GtU ∷ compare.LeS ∷ compare.LeU ∷
    compare.GeS ∷ compare.GeU ∷ [])

-- The operators of a type on one operand, and those on two.
abbrev pub operators : ValType → List Opcode
operators t =
    map (λ op. instr (shapes.Numeric (numeric.Unary t op))) (unary.Clz ∷ unary.Ctz ∷ unary.Popcnt ∷ [])
    ++ map (λ op. instr (shapes.Numeric (numeric.Binary t op)))
    (binary.Add ∷ binary.Sub ∷ binary.Mul ∷ binary.DivS ∷ binary.DivU ∷ binary.RemS ∷ binary.RemU ∷ binary.And ∷
    binary.Or ∷ binary.Xor ∷ binary.Shl ∷ binary.ShrS ∷ binary.ShrU ∷ binary.Rotl ∷ binary.Rotr ∷ [])

-- The conversions, among those from and to floats.
abbrev pub conversions : List Opcode
conversions =
    instr (shapes.Numeric (numeric.Convert convert.WrapI64)) ∷ floats 4
    ++ instr (shapes.Numeric (numeric.Convert convert.ExtendI32S))
    ∷ instr (shapes.Numeric (numeric.Convert convert.ExtendI32U)) ∷ floats 18

-- The sign extensions (Core specification 2.0, section 5.4.7): those of i32, then those of i64, the narrower first.
abbrev pub sign_extensions : List Opcode
sign_extensions = map (λ w. instr (shapes.Numeric (numeric.Convert (convert.SignExtend w))))
    (narrow.I32Bits8 ∷ narrow.I32Bits16 ∷ narrow.I64Bits8 ∷ narrow.I64Bits16 ∷ narrow.I64Bits32 ∷ [])

abbrev pub opcode_groups : List (Group Opcode)
opcode_groups =
    from 0x00 blocks
    ∷ from 0x0b branches
    ∷ from 0x1a parametric
    ∷ from 0x20 variables
    ∷ from 0x28 loads
    ∷ from 0x36 stores
    ∷ from 0x3f sizes
    ∷ from 0x41 constants
    ∷ from 0x45 (comparisons types.I32)
    ∷ from 0x50 (comparisons types.I64)
    ∷ from 0x5b (floats 12)
    ∷ from 0x67 (operators types.I32)
    ∷ from 0x79 (operators types.I64)
    ∷ from 0x8b (floats 28)
    ∷ from 0xa7 conversions
    ∷ from 0xc0 sign_extensions
    ∷ from 0xfe (instr shapes.Atomic ∷ [])
    ∷ []

-- The instruction that an opcode begins, or why there is none.
unfoldable pub opcode : ℕ → Opcode
opcode code = among opcode_groups (Err kinds.UnknownByte) code

-- An atomic instruction at each width: the types' own, then those below.
abbrev pub at_widths : (AccessWidth → AtomicOp) → List AtomicShape
at_widths op = map (λ w. atomics.Access (op w)) (whole_widths ++ narrow_widths)

abbrev pub waits : List AtomicShape
waits = atomics.Access atomic.Notify ∷ atomics.Access (atomic.Wait types.I32) ∷ atomics.Access (atomic.Wait types.I64)
    ∷ atomics.Fence ∷ []

abbrev pub atomic_groups : List (Group (Option AtomicShape))
atomic_groups = map (λ g. from g.first (map (λ s. Some s) g.members)) (
    from 0x00 waits
    ∷ from 0x10 (at_widths (λ w. atomic.Load w))
    ∷ from 0x17 (at_widths (λ w. atomic.Store w))
    ∷ from 0x1e (at_widths (λ w. atomic.Rmw rmw.Add w))
    ∷ from 0x25 (at_widths (λ w. atomic.Rmw rmw.Sub w))
    ∷ from 0x2c (at_widths (λ w. atomic.Rmw rmw.And w))
    ∷ from 0x33 (at_widths (λ w. atomic.Rmw rmw.Or w))
    ∷ from 0x3a (at_widths (λ w. atomic.Rmw rmw.Xor w))
    ∷ from 0x41 (at_widths (λ w. atomic.Rmw rmw.Xchg w))
    ∷ from 0x48 (at_widths (λ w. atomic.Cmpxchg w))
    ∷ [])

-- The instruction that a number behind the prefix begins, if there is one.
unfoldable pub atomic_number : ℕ → Option AtomicShape
atomic_number n = among atomic_groups None n
