use Rattle.std.proofs.Common.{refl}
use Rattle.types.specs.declared.value.ValType.TheVariants.{I32}
use Rattle.types.specs.declared.operators.AtomicOp.TheVariants as atomic
use Rattle.types.specs.Widths.{access_type}
use Rattle.validate_typing.specs.Typing.{atomic_takes}
use Rattle.interp_accesses.proofs.Rest.{word_at, place_in, some_bytes, few_bytes}
use Rattle.interp_accesses.proofs.requests.rmw.Goals as goal

pub address_at-requires-clause-operand : goal.address_at-requires-clause-operand
address_at-requires-clause-operand c = word_at (atomic_takes (atomic.Rmw c.args.op c.args.width)) _ 1 I32 c.requires refl

pub number_at-operand-requires : goal.number_at-operand-requires
number_at-operand-requires c = place_in (atomic_takes (atomic.Rmw c.args.op c.args.width)) _ 0 (access_type c.args.width) c.requires refl

pub low_bytes-requires-clause-some : goal.low_bytes-requires-clause-some
low_bytes-requires-clause-some c = rw c.bytes-bytes.ensures (some_bytes c.args.width)

pub low_bytes-requires-clause-at_most_a_word : goal.low_bytes-requires-clause-at_most_a_word
low_bytes-requires-clause-at_most_a_word c = rw c.bytes-bytes.ensures (few_bytes c.args.width)
