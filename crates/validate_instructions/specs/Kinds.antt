-- Which fault is answered of an instruction that is refused: of what it names, in order, then of its alignment, and
-- else of its operands.
use Rattle.std.specs.Prelude.{ℕ, ◌^◌, if◌then◌else◌, List, ◌∷◌, Bool, nat_le, nat_eq, Option, Some, None, is_some}
use Rattle.std.specs.List.{slice_get, list_all}
use Rattle.types.specs.declared.value.ValType.{ValType}
use Rattle.types.specs.declared.instr.PlainInstr.{PlainInstr}
use Rattle.types.specs.declared.instr.PlainInstr.TheVariants as plain
use Rattle.types.specs.declared.instr.Instr.{Instr}
use Rattle.types.specs.declared.instr.Instr.TheVariants as instrs
use Rattle.types.specs.declared.parts.GlobalType.{GlobalType}
use Rattle.types.specs.Widths.{load_bytes, access_bytes, atomic_bytes}
use Rattle.validate_typing.specs.declared.fault.Fault.{Fault}
use Rattle.validate_typing.specs.declared.fault.Fault.TheVariants.{TypeMismatch, UnknownLabel, UnknownLocal}
use Rattle.validate_typing.specs.declared.fault.Fault.TheVariants.{UnknownGlobal}
use Rattle.validate_typing.specs.declared.fault.Fault.TheVariants.{UnknownFunction, UnknownType, UnknownTable}
use Rattle.validate_typing.specs.declared.fault.Fault.TheVariants.{UnknownMemory}
use Rattle.validate_typing.specs.declared.fault.Fault.TheVariants.{ConstantGlobal, Alignment}
use Rattle.validate_typing.specs.declared.fault.ValidFault.{ValidFault}
use Rattle.validate_typing.specs.declared.fault.ValidFault.TheVariants as validity
use Rattle.validate_instructions.specs.declared.problem.Problem.{Problem}
use Rattle.validate_instructions.specs.declared.problem.Problem.TheVariants.{OutOfMemory, Wrong}
use Rattle.validate_typing.specs.Context.{Context}

-- The fault where nothing is found.
abbrev pub lacking : {A : Type 0} → Option A → Fault → Fault
lacking None kind = kind
lacking (Some x) kind = TypeMismatch

abbrev pub call_kind : Context → Option ℕ → Fault
call_kind c None = UnknownFunction
call_kind c (Some index) = lacking (slice_get c.types index) UnknownType

abbrev pub indirect_kind : {A : Type 0} → Context → Option A → ℕ → Fault
indirect_kind c None index = UnknownTable
indirect_kind c (Some table) index = lacking (slice_get c.types index) UnknownType

abbrev pub written_kind : Option GlobalType → Fault
written_kind None = UnknownGlobal
written_kind (Some g) = if g.mutable then TypeMismatch else ConstantGlobal

abbrev pub access_kind : {A : Type 0} → Option A → Bool → Fault
access_kind None aligned = UnknownMemory
access_kind (Some memory) aligned = if aligned then TypeMismatch else Alignment

-- Whether there are such labels.
abbrev pub are_labels : List (List ValType) → List ℕ → Bool
are_labels labels ks = list_all (λ k. is_some (slice_get labels k)) ks

abbrev pub kind_of : Context → List (List ValType) → PlainInstr → Fault
kind_of c labels plain.Unreachable = TypeMismatch
kind_of c labels plain.Nop = TypeMismatch
kind_of c labels (plain.Br l) = lacking (slice_get labels l) UnknownLabel
kind_of c labels (plain.BrIf l) = lacking (slice_get labels l) UnknownLabel
kind_of c labels (plain.BrTable l ls) = if are_labels labels (l ∷ ls) then TypeMismatch else UnknownLabel
kind_of c labels plain.Return = TypeMismatch
kind_of c labels (plain.Call f) = call_kind c (slice_get c.functions f)
kind_of c labels (plain.CallIndirect index) = indirect_kind c (slice_get c.tables 0) index
kind_of c labels plain.Drop = TypeMismatch
kind_of c labels plain.Select = TypeMismatch
kind_of c labels (plain.LocalGet x) = lacking (slice_get c.locals x) UnknownLocal
kind_of c labels (plain.LocalSet x) = lacking (slice_get c.locals x) UnknownLocal
kind_of c labels (plain.LocalTee x) = lacking (slice_get c.locals x) UnknownLocal
kind_of c labels (plain.GlobalGet x) = lacking (slice_get c.globals x) UnknownGlobal
kind_of c labels (plain.GlobalSet x) = written_kind (slice_get c.globals x)
kind_of c labels (plain.I32Const n) = TypeMismatch
kind_of c labels (plain.I64Const n) = TypeMismatch
kind_of c labels (plain.Numeric n) = TypeMismatch
kind_of c labels (plain.Load op arg) = access_kind (slice_get c.memories 0) (nat_le (2 ^ arg.align) (load_bytes op))
kind_of c labels (plain.Store w arg) = access_kind (slice_get c.memories 0) (nat_le (2 ^ arg.align) (access_bytes w))
kind_of c labels plain.MemorySize = lacking (slice_get c.memories 0) UnknownMemory
kind_of c labels plain.MemoryGrow = lacking (slice_get c.memories 0) UnknownMemory
kind_of c labels (plain.Atomic op arg) = access_kind (slice_get c.memories 0) (nat_eq (2 ^ arg.align) (atomic_bytes op))
kind_of c labels plain.Fence = TypeMismatch

-- Of an instruction that begins, divides or ends a block it is that of the operands.
abbrev pub kind_at : Context → List (List ValType) → Instr → Fault
kind_at c labels (instrs.Block t) = TypeMismatch
kind_at c labels (instrs.Loop t) = TypeMismatch
kind_at c labels (instrs.If t) = TypeMismatch
kind_at c labels instrs.Else = TypeMismatch
kind_at c labels instrs.End = TypeMismatch
kind_at c labels (instrs.Plain op) = kind_of c labels op

-- A problem with its place.
abbrev pub fault_at : Problem → ℕ → ℕ → ValidFault
fault_at OutOfMemory function instruction = validity.OutOfMemory
fault_at (Wrong kind) function instruction = validity.InBody kind function instruction
