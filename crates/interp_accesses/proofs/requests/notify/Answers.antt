use Rattle.std.proofs.Common.{refl}
use Rattle.types.specs.declared.value.ValType.TheVariants.{I32}
use Rattle.types.specs.declared.operators.AtomicOp.TheVariants as atomic
use Rattle.validate_typing.specs.Typing.{atomic_takes}
use Rattle.interp_accesses.proofs.Rest.{word_at}
use Rattle.interp_accesses.proofs.requests.notify.Goals as goal

pub address_at-requires-clause-operand : goal.address_at-requires-clause-operand
address_at-requires-clause-operand c = word_at (atomic_takes atomic.Notify) _ 1 I32 c.requires refl

pub i32_at-requires : goal.i32_at-requires
i32_at-requires c = word_at (atomic_takes atomic.Notify) _ 0 I32 c.requires refl
