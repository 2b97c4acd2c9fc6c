use Rattle.validate_instructions.proofs.Fitting.{checked_drop, refused_drop}
use Rattle.validate_instructions.proofs.Moves.{at_exit}
use Rattle.validate_instructions.proofs.parametric.check_drop.Goals as goal

pub returns-in_err-take_any : goal.returns-in_err-take_any
returns-in_err-take_any c = at_exit _ _ _ _ c.from_residual.ensures.1 (c.in_err-take_any.ensures.0, refused_drop c.args.block.now _ c.in_err-take_any.ensures)

pub returns : goal.returns
returns c = checked_drop _ _ _ c.in_ok-take_any.ensures
