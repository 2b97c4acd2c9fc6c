use Rattle.validate_instructions.proofs.Fitting.{select_passed, select_of_passed}
use Rattle.validate_instructions.proofs.parametric.check_select.Goals as goal

pub returns-in_ok-take_one-in-Some : goal.returns-in_ok-take_one-in-Some
returns-in_ok-take_one-in-Some c =
    select_of_passed c.in-Some.val_type _ _ _ _ _ _ c.in_ok-take_one.ensures (rw c.in-Some.is at c.in_ok-first.ensures)
    c.in_ok-take_one-in-Some.ensures c.put_one.ensures

pub returns-in_ok-second-in-None : goal.returns-in_ok-second-in-None
returns-in_ok-second-in-None c =
    select_passed _ _ _ _ _ _ _ c.in_ok-take_one.ensures (rw c.in-None.is at c.in_ok-first.ensures) c.in_ok-second-in-None.ensures c.put_any.ensures
