use Rattle.host_tests.proofs.machine.some_marks_are_idle.Goals as goal

pub step_along-requires : goal.step_along-requires
step_along-requires g c = (_, _, c.in_ok-machine.ensures.at)
