use Rattle.std.proofs.Common.{rules, ◌≡◌, sym, ◌∙◌, to_z, of_z, refl}
use Rattle.std.specs.Int.{w64}
use Rattle.interp_numeric.specs.Integers.{signed}
use Rattle.interp_numeric.proofs.Signs.{signed-is, passed}
use Rattle.types.specs.declared.value.ValType.TheVariants.{I32, I64}
use Rattle.types.specs.declared.operators.AtomicOp.TheVariants as atomic
use Rattle.validate_typing.specs.Typing.{atomic_takes}
use Rattle.interp_accesses.proofs.Rest.{word_at, place_in}
use Rattle.interp_accesses.proofs.requests.wait.Goals as goal

pub address_at-requires-clause-operand : goal.address_at-requires-clause-operand
address_at-requires-clause-operand c = word_at (atomic_takes (atomic.Wait c.args.val_type)) _ 2 I32 c.requires refl

pub returns : goal.returns
returns c =
    let timeout : to_z w64 (of_z w64 c.cast_signed.result) ≡ signed 64 c.number_at-2.result =
    passed w64 c.number_at-2.result c.cast_signed.result c.number_at-2.type_inv c.cast_signed.ensures
    ∙ sym (signed-is w64 c.number_at-2.result c.number_at-2.type_inv) in
    search (rules, timeout)

pub number_at-requires : goal.number_at-requires
number_at-requires c = place_in (atomic_takes (atomic.Wait c.args.val_type)) _ 1 c.args.val_type c.requires refl

pub number_at-requires-2 : goal.number_at-requires-2
number_at-requires-2 c = place_in (atomic_takes (atomic.Wait c.args.val_type)) _ 0 I64 c.requires refl
