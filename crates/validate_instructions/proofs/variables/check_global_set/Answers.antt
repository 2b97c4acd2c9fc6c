use Rattle.std.proofs.Common.{refl, ◌∷◌, [], subst, ◌≡◌, ◌∙◌, sym, ap, true, false}
use Rattle.types.specs.declared.instr.PlainInstr.TheVariants as plain
use Rattle.validate_instructions.specs.Scope.{context_of}
use Rattle.validate_instructions.proofs.Fitting.{inside, missing_inside, same_found, never_found}
use Rattle.std.proofs.Common.{rules}
use Rattle.types.specs.declared.parts.GlobalType.{GlobalType}
use Rattle.validate_typing.specs.declared.fault.Fault.TheVariants.{UnknownGlobal}
use Rattle.validate_typing.specs.Typing.{Moves}
use Rattle.validate_instructions.proofs.Moves.{at_exit}
use Rattle.validate_instructions.proofs.variables.check_global_set.Goals as goal

pub returns-in_err-global : goal.returns-in_err-global
returns-in_err-global c =
    at_exit _ _ _ _ c.from_residual.ensures.1
    (missing_inside (context_of c.args.scope.now) (plain.GlobalSet c.args.index) c.args.block.now _ UnknownGlobal c.in_err-global.ensures.0
    (λ labels. rw c.in_err-global.ensures.1 refl) (λ labels ts us x. never_found _ x.0 c.in_err-global.ensures.1 x.1))

pub returns-then-not-global : goal.returns-then-not-global
returns-then-not-global c =
    let constant : c.in_ok-global.global.mutable ≡ false = search rules in
    λ labels. (
      rw (c.in_ok-global.ensures, constant) refl,
      λ ts us k x.
          let same = same_found _ _ _ c.in_ok-global.ensures x.1 in
          let never : true ≡ false = sym x.2 ∙ ap (λ (g : GlobalType). g.mutable) (sym same) ∙ constant in
          cc,
    )

pub returns : goal.returns
returns c = inside (context_of c.args.scope.now) (plain.GlobalSet c.args.index) _ _ _ _ _ refl (λ live. refl)
    (λ labels. rw c.in_ok-global.ensures (search rules)) (λ labels ts us x. (c.in_ok-global.global, c.in_ok-global.ensures, (search rules), x))
    (λ labels ts us x. subst (λ (t : GlobalType). Moves (t.val_type ∷ []) [] ts us) (same_found _ _ _ x.1 c.in_ok-global.ensures) x.3) c.replace.ensures
