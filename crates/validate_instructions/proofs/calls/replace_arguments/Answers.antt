use Rattle.validate_instructions.proofs.Moves.{lacks_cant, moving, at_exit}
use Rattle.std.proofs.Common.{reverse}
use Rattle.validate_instructions.proofs.calls.replace_arguments.Goals as goal

pub returns-in_err-take_params : goal.returns-in_err-take_params
returns-in_err-take_params c = at_exit _ _ _ _ c.from_residual.ensures.1
    (rw c.as_slice.ensures at (lacks_cant (reverse c.as_slice.result.now) c.args.block.now _ c.in_err-take_params.ensures))

pub returns : goal.returns
returns c = rw (← c.as_slice.ensures, ← c.as_slice-2.ensures) (moving _ _ _ _ _ _ c.in_ok-take_params.ensures c.put_all.ensures)
