-- How many bytes an access takes, and the type of its value on the stack.
use Rattle.std.specs.Prelude.{ℕ}
use Rattle.types.specs.declared.value.ValType.{ValType}
use Rattle.types.specs.declared.value.ValType.TheVariants as types
use Rattle.types.specs.declared.operators.NarrowWidth.{NarrowWidth}
use Rattle.types.specs.declared.operators.NarrowWidth.TheVariants as narrow
use Rattle.types.specs.declared.operators.AccessWidth.{AccessWidth}
use Rattle.types.specs.declared.operators.AccessWidth.TheVariants as access
use Rattle.types.specs.declared.operators.LoadOp.{LoadOp}
use Rattle.types.specs.declared.operators.LoadOp.TheVariants as load
use Rattle.types.specs.declared.operators.AtomicOp.{AtomicOp}
use Rattle.types.specs.declared.operators.AtomicOp.TheVariants as atomic

-- The bytes of a type: its bits divided by 8 (Core specification 1.0, section 2.3.1).
abbrev pub type_bytes : ValType → ℕ
type_bytes types.I32 = 4
type_bytes types.I64 = 8

-- The type of the value on the stack (Core specification 1.0, section 2.4.4).
abbrev pub narrow_type : NarrowWidth → ValType
narrow_type narrow.I32Bits8 = types.I32
narrow_type narrow.I32Bits16 = types.I32
narrow_type narrow.I64Bits8 = types.I64
narrow_type narrow.I64Bits16 = types.I64
narrow_type narrow.I64Bits32 = types.I64

-- The bytes in memory (Core specification 1.0, section 2.4.4).
abbrev pub narrow_bytes : NarrowWidth → ℕ
narrow_bytes narrow.I32Bits8 = 1
narrow_bytes narrow.I32Bits16 = 2
narrow_bytes narrow.I64Bits8 = 1
narrow_bytes narrow.I64Bits16 = 2
narrow_bytes narrow.I64Bits32 = 4

abbrev pub access_type : AccessWidth → ValType
access_type (access.Whole t) = t
access_type (access.Narrow w) = narrow_type w

abbrev pub access_bytes : AccessWidth → ℕ
access_bytes (access.Whole t) = type_bytes t
access_bytes (access.Narrow w) = narrow_bytes w

abbrev pub load_type : LoadOp → ValType
load_type (load.ZeroExtend w) = access_type w
load_type (load.SignExtend w) = narrow_type w

abbrev pub load_bytes : LoadOp → ℕ
load_bytes (load.ZeroExtend w) = access_bytes w
load_bytes (load.SignExtend w) = narrow_bytes w

-- The bytes of an atomic access; notify counts as one of 4 bytes (threads proposal, section "Wait and Notify
-- operators").
abbrev pub atomic_bytes : AtomicOp → ℕ
atomic_bytes atomic.Notify = 4
atomic_bytes (atomic.Wait t) = type_bytes t
atomic_bytes (atomic.Load w) = access_bytes w
atomic_bytes (atomic.Store w) = access_bytes w
atomic_bytes (atomic.Rmw op w) = access_bytes w
atomic_bytes (atomic.Cmpxchg w) = access_bytes w
