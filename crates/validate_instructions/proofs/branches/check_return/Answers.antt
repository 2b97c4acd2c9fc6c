use Rattle.std.proofs.Common.{refl, []}
use Rattle.types.specs.declared.instr.PlainInstr.TheVariants as plain
use Rattle.validate_instructions.specs.Scope.{context_of}
use Rattle.validate_instructions.proofs.Fitting.{checked_stop, refused_cant}
use Rattle.validate_typing.specs.Typing.{results_of}
use Rattle.validate_instructions.proofs.Moves.{lacks_cant, at_exit}
use Rattle.validate_instructions.proofs.branches.check_return.Goals as goal

pub returns-in_err-take_result : goal.returns-in_err-take_result
returns-in_err-take_result c =
    let results = results_of c.args.scope.now.result in
    at_exit _ _ _ _ c.from_residual.ensures.1 (
      c.in_err-take_result.ensures.0,
      λ labels. refused_cant (context_of c.args.scope.now) labels plain.Return results c.args.block.now _ refl (λ ts us x. x)
          (lacks_cant results c.args.block.now _ c.in_err-take_result.ensures),
    )

pub returns : goal.returns
returns c = λ labels. checked_stop (context_of c.args.scope.now) labels plain.Return _ _ _ _ []
    c.in_ok-take_result.ensures c.stop.ensures.shape c.stop.ensures.flow c.stop.ensures.bare (λ below us. (below, refl))
    (λ live. refl) refl
