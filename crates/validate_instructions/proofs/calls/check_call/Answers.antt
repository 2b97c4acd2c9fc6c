use Rattle.std.proofs.Common.{refl, []}
use Rattle.types.specs.declared.instr.PlainInstr.TheVariants as plain
use Rattle.validate_instructions.specs.Scope.{context_of}
use Rattle.validate_instructions.proofs.Fitting.{inside, missing_inside, never_found, called_by, uncalled}
use Rattle.validate_typing.specs.declared.fault.Fault.TheVariants.{UnknownFunction, UnknownType}
use Rattle.validate_instructions.proofs.Moves.{at_exit}
use Rattle.validate_instructions.proofs.calls.check_call.Goals as goal

pub returns-in_err-type_index : goal.returns-in_err-type_index
returns-in_err-type_index c =
    at_exit _ _ _ _ c.from_residual.ensures.1
    (missing_inside (context_of c.args.scope.now) (plain.Call c.args.index) c.args.block.now _ UnknownFunction c.in_err-type_index.ensures.0
    (λ labels. rw c.in_err-type_index.ensures.1 refl) (λ labels ts us x. never_found _ x.0 c.in_err-type_index.ensures.1 x.1))

pub returns-in_err-func_type : goal.returns-in_err-func_type
returns-in_err-func_type c =
    at_exit _ _ _ _ c.from_residual-in_err-func_type.ensures.1
    (missing_inside (context_of c.args.scope.now) (plain.Call c.args.index) c.args.block.now _ UnknownType c.in_err-func_type.ensures.0
    (λ labels. rw (c.in_ok-type_index.ensures, c.in_err-func_type.ensures.1) refl)
    (λ labels ts us x. uncalled (context_of c.args.scope.now) [] _ _ ts us c.in_ok-type_index.ensures c.in_err-func_type.ensures.1 x.0 x.1 x.2))

pub returns : goal.returns
returns c = inside (context_of c.args.scope.now) (plain.Call c.args.index) _ _ _ _ _ refl (λ live. refl)
    (λ labels. rw (c.in_ok-type_index.ensures, c.in_ok-func_type.ensures) refl)
    (λ labels ts us x. (
      c.in_ok-type_index.type_index,
      c.in_ok-type_index.ensures,
      (c.in_ok-func_type.func_type.now, c.in_ok-func_type.ensures, x),
    )) (λ labels ts us x. called_by (context_of c.args.scope.now) [] _ _ _ ts us c.in_ok-type_index.ensures c.in_ok-func_type.ensures x.0 x.1 x.2)
    c.replace_arguments.ensures
