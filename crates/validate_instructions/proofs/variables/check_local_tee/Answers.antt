use Rattle.std.proofs.Common.{refl, ◌∷◌, [], subst}
use Rattle.types.specs.declared.instr.PlainInstr.TheVariants as plain
use Rattle.validate_instructions.specs.Scope.{context_of}
use Rattle.validate_instructions.proofs.Fitting.{inside, missing_inside, same_found, never_found}
use Rattle.types.specs.declared.value.ValType.{ValType}
use Rattle.validate_typing.specs.declared.fault.Fault.TheVariants.{UnknownLocal}
use Rattle.validate_typing.specs.Typing.{Moves}
use Rattle.validate_instructions.proofs.Moves.{at_exit}
use Rattle.validate_instructions.proofs.variables.check_local_tee.Goals as goal

pub returns-in_err-local : goal.returns-in_err-local
returns-in_err-local c =
    at_exit _ _ _ _ c.from_residual.ensures.1
    (missing_inside (context_of c.args.scope.now) (plain.LocalTee c.args.index) c.args.block.now _ UnknownLocal c.in_err-local.ensures.0
    (λ labels. rw c.in_err-local.ensures.1 refl) (λ labels ts us x. never_found _ x.0 c.in_err-local.ensures.1 x.1))

pub returns : goal.returns
returns c = inside (context_of c.args.scope.now) (plain.LocalTee c.args.index) _ _ _ _ _ refl (λ live. refl)
    (λ labels. rw c.in_ok-local.ensures refl) (λ labels ts us x. (c.in_ok-local.local, c.in_ok-local.ensures, x))
    (λ labels ts us x. subst (λ (t : ValType). Moves (t ∷ []) (t ∷ []) ts us) (same_found _ _ _ x.1 c.in_ok-local.ensures) x.2) c.replace.ensures
