use Rattle.std.proofs.Common.{refl, sym}
use Rattle.std.specs.Bool.{⊤}
use Rattle.validate_instructions.proofs.Moves.{at_exit}
use Rattle.validate.proofs.TableLaws.{refused_whole}
use Rattle.validate.proofs.alone.check_alone.Goals as goal

pub returns-clause-valid : goal.returns-clause-valid
returns-clause-valid c = c.in_default.ensures.sound refl c.in_ok-check_bodies.ensures

pub returns-in_err-check_bodies-clause-refused : goal.returns-in_err-check_bodies-clause-refused
returns-in_err-check_bodies-clause-refused c =
    at_exit _ _ (λ _. ⊤) _ c.from_residual-in_err-check_bodies.ensures.1
    (refused_whole c.args.parts.now _ (sym c.in_default.ensures.first) c.in_err-check_bodies.ensures)
