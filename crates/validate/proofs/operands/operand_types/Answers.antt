use Rattle.std.proofs.Common.{IfOk, subst, sym}
use Rattle.std.specs.Option.{MatchOption}
use Rattle.types.specs.declared.parts.Parts.{Parts}
use Rattle.validate_typing.specs.Validity.{IsValid}
use Rattle.validate.specs.Operands.{HasOwnOperands, LacksOperands}
use Rattle.validate.proofs.OperandLaws.{own_operands}
use Rattle.validate.proofs.operands.operand_types.Goals as goal

pub returns : goal.returns
returns c =
    let found = c.func_type.ensures.found in
    let valid = subst IsValid (sym c.parts-parts.ensures.parts) c.parts-parts.ensures.validated.valid in
    let given = own_operands c.parts-parts.result.now c.args.own c.args.place c.func_type.result.now c.body.result.now _ (λ v. v.items) _ valid
    (record { index = found.0; has_index = found.1; has_type = found.2; has_body = c.body.ensures.body }) c.declared.ensures c.operand_types.ensures in
    subst (λ (m : Parts). IfOk c.operand_types.result (λ o. MatchOption o (LacksOperands m c.args.own c.args.place)
    (λ v. HasOwnOperands m c.args.own c.args.place v.items))) c.parts-parts.ensures.parts given
