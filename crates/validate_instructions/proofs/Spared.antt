-- No instruction's fault is want of memory.
use Rattle.std.proofs.Common.{◌≡◌, ℕ, List, Bool, true, false, Option, Some, None, cond, slice_get}
use Rattle.types.specs.declared.value.ValType.{ValType}
use Rattle.types.specs.declared.parts.GlobalType.{GlobalType}
use Rattle.types.specs.declared.instr.PlainInstr.{PlainInstr}
use Rattle.types.specs.declared.instr.PlainInstr.TheVariants as plain
use Rattle.types.specs.declared.instr.Instr.{Instr}
use Rattle.types.specs.declared.instr.Instr.TheVariants as instrs
use Rattle.validate_typing.specs.declared.fault.Fault.{Fault}
use Rattle.validate_typing.specs.declared.fault.Fault.TheVariants as faults
use Rattle.validate_typing.specs.Context.{Context}
use Rattle.validate_instructions.specs.Kinds.{lacking, call_kind, indirect_kind, written_kind, access_kind, kind_of}
use Rattle.validate_instructions.specs.Kinds.{kind_at}

abbrev IsSpared : Fault → Type 0
IsSpared kind = kind ≡ faults.OutOfMemory → ⊥

lacking_spared : {A : Type 0} (o : Option A) (kind : Fault) → IsSpared kind → IsSpared (lacking o kind)
lacking_spared None kind n = n
lacking_spared (Some x) kind n = λ e. cc

call_spared : (c : Context) (o : Option ℕ) → IsSpared (call_kind c o)
call_spared c None = λ e. cc
call_spared c (Some index) = lacking_spared (slice_get c.types index) faults.UnknownType (λ e. cc)

indirect_spared : {A : Type 0} (c : Context) (o : Option A) (index : ℕ) → IsSpared (indirect_kind c o index)
indirect_spared c None index = λ e. cc
indirect_spared c (Some t) index = lacking_spared (slice_get c.types index) faults.UnknownType (λ e. cc)

chosen_spared : (b : Bool) (k l : Fault) → IsSpared k → IsSpared l → IsSpared (cond b k l)
chosen_spared true k l m n = m
chosen_spared false k l m n = n

written_spared : (o : Option GlobalType) → IsSpared (written_kind o)
written_spared None = λ e. cc
written_spared (Some g) = chosen_spared g.mutable faults.TypeMismatch faults.ConstantGlobal (λ e. cc) (λ e. cc)

access_spared : {A : Type 0} (o : Option A) (b : Bool) → IsSpared (access_kind o b)
access_spared None b = λ e. cc
access_spared (Some x) b = chosen_spared b faults.TypeMismatch faults.Alignment (λ e. cc) (λ e. cc)

plain_spared : (c : Context) (labels : List (List ValType)) (op : PlainInstr) → IsSpared (kind_of c labels op)
plain_spared c labels plain.Unreachable = λ e. cc
plain_spared c labels plain.Nop = λ e. cc
plain_spared c labels (plain.Br l) = lacking_spared (slice_get labels l) faults.UnknownLabel (λ e. cc)
plain_spared c labels (plain.BrIf l) = lacking_spared (slice_get labels l) faults.UnknownLabel (λ e. cc)
plain_spared c labels (plain.BrTable l ls) = chosen_spared _ faults.TypeMismatch faults.UnknownLabel (λ e. cc) (λ e. cc)
plain_spared c labels plain.Return = λ e. cc
plain_spared c labels (plain.Call f) = call_spared c (slice_get c.functions f)
plain_spared c labels (plain.CallIndirect index) = indirect_spared c (slice_get c.tables 0) index
plain_spared c labels plain.Drop = λ e. cc
plain_spared c labels plain.Select = λ e. cc
plain_spared c labels (plain.LocalGet x) = lacking_spared (slice_get c.locals x) faults.UnknownLocal (λ e. cc)
plain_spared c labels (plain.LocalSet x) = lacking_spared (slice_get c.locals x) faults.UnknownLocal (λ e. cc)
plain_spared c labels (plain.LocalTee x) = lacking_spared (slice_get c.locals x) faults.UnknownLocal (λ e. cc)
plain_spared c labels (plain.GlobalGet x) = lacking_spared (slice_get c.globals x) faults.UnknownGlobal (λ e. cc)
plain_spared c labels (plain.GlobalSet x) = written_spared (slice_get c.globals x)
plain_spared c labels (plain.I32Const n) = λ e. cc
plain_spared c labels (plain.I64Const n) = λ e. cc
plain_spared c labels (plain.Numeric n) = λ e. cc
plain_spared c labels (plain.Load op arg) = access_spared (slice_get c.memories 0) _
plain_spared c labels (plain.Store w arg) = access_spared (slice_get c.memories 0) _
plain_spared c labels plain.MemorySize = lacking_spared (slice_get c.memories 0) faults.UnknownMemory (λ e. cc)
plain_spared c labels plain.MemoryGrow = lacking_spared (slice_get c.memories 0) faults.UnknownMemory (λ e. cc)
plain_spared c labels (plain.Atomic op arg) = access_spared (slice_get c.memories 0) _
plain_spared c labels plain.Fence = λ e. cc

pub kind_spared : (c : Context) (labels : List (List ValType)) (i : Instr) → IsSpared (kind_at c labels i)
kind_spared c labels (instrs.Block t) = λ e. cc
kind_spared c labels (instrs.Loop t) = λ e. cc
kind_spared c labels (instrs.If t) = λ e. cc
kind_spared c labels instrs.Else = λ e. cc
kind_spared c labels instrs.End = λ e. cc
kind_spared c labels (instrs.Plain op) = plain_spared c labels op
