use Rattle.validate_instructions.proofs.Fitting.{checks_in, checks_any, checks_free, checks_stand, checks_stand_in}
use Rattle.validate_instructions.proofs.plain.check_plain.Goals as goal

pub returns-in-Unreachable : goal.returns-in-Unreachable
returns-in-Unreachable c = rw c.in-Unreachable.is (checks_free _ _ _ _ _ _ _ c.requires c.check_unreachable.ensures)

pub returns-in-Nop : goal.returns-in-Nop
returns-in-Nop c = rw c.in-Nop.is (checks_free _ _ _ _ _ _ _ c.requires c.check_nop.ensures)

pub returns-in-Drop : goal.returns-in-Drop
returns-in-Drop c = rw c.in-Drop.is (checks_stand _ _ _ _ _ _ _ c.requires c.check_drop.ensures)

pub returns-in-Select : goal.returns-in-Select
returns-in-Select c = rw c.in-Select.is (checks_any _ _ _ _ _ _ _ c.requires c.check_select.ensures)

pub returns-in-I32Const : goal.returns-in-I32Const
returns-in-I32Const c = rw c.in-I32Const.is (checks_any _ _ _ _ _ _ _ c.requires c.check_i32_const.ensures)

pub returns-in-I64Const : goal.returns-in-I64Const
returns-in-I64Const c = rw c.in-I64Const.is (checks_any _ _ _ _ _ _ _ c.requires c.check_i64_const.ensures)

pub returns-in-Numeric : goal.returns-in-Numeric
returns-in-Numeric c = rw c.in-Numeric.is (checks_any _ _ _ _ _ _ _ c.requires c.check_numeric.ensures)

pub returns-in-Fence : goal.returns-in-Fence
returns-in-Fence c = rw c.in-Fence.is (checks_free _ _ _ _ _ _ _ c.requires c.check_fence.ensures)

pub returns-in-Return : goal.returns-in-Return
returns-in-Return c = rw c.in-Return.is (checks_stand_in _ _ _ _ _ _ _ c.requires c.check_return.ensures)

pub returns-in-Call : goal.returns-in-Call
returns-in-Call c = rw c.in-Call.is (checks_in _ _ _ _ _ _ _ c.requires c.check_call.ensures)

pub returns-in-CallIndirect : goal.returns-in-CallIndirect
returns-in-CallIndirect c = rw c.in-CallIndirect.is (checks_in _ _ _ _ _ _ _ c.requires c.check_call_indirect.ensures)

pub returns-in-LocalGet : goal.returns-in-LocalGet
returns-in-LocalGet c = rw c.in-LocalGet.is (checks_in _ _ _ _ _ _ _ c.requires c.check_local_get.ensures)

pub returns-in-LocalSet : goal.returns-in-LocalSet
returns-in-LocalSet c = rw c.in-LocalSet.is (checks_in _ _ _ _ _ _ _ c.requires c.check_local_set.ensures)

pub returns-in-LocalTee : goal.returns-in-LocalTee
returns-in-LocalTee c = rw c.in-LocalTee.is (checks_in _ _ _ _ _ _ _ c.requires c.check_local_tee.ensures)

pub returns-in-GlobalGet : goal.returns-in-GlobalGet
returns-in-GlobalGet c = rw c.in-GlobalGet.is (checks_in _ _ _ _ _ _ _ c.requires c.check_global_get.ensures)

pub returns-in-GlobalSet : goal.returns-in-GlobalSet
returns-in-GlobalSet c = rw c.in-GlobalSet.is (checks_in _ _ _ _ _ _ _ c.requires c.check_global_set.ensures)

pub returns-in-Load : goal.returns-in-Load
returns-in-Load c = rw c.in-Load.is (checks_in _ _ _ _ _ _ _ c.requires c.check_load.ensures)

pub returns-in-Store : goal.returns-in-Store
returns-in-Store c = rw c.in-Store.is (checks_in _ _ _ _ _ _ _ c.requires c.check_store.ensures)

pub returns-in-MemorySize : goal.returns-in-MemorySize
returns-in-MemorySize c = rw c.in-MemorySize.is (checks_in _ _ _ _ _ _ _ c.requires c.check_memory_size.ensures)

pub returns-in-MemoryGrow : goal.returns-in-MemoryGrow
returns-in-MemoryGrow c = rw c.in-MemoryGrow.is (checks_in _ _ _ _ _ _ _ c.requires c.check_memory_grow.ensures)

pub returns-in-Atomic : goal.returns-in-Atomic
returns-in-Atomic c = rw c.in-Atomic.is (checks_in _ _ _ _ _ _ _ c.requires c.check_atomic.ensures)
