use Rattle.host_tests.proofs.machine.agrees.Goals as goal

pub schedule_of-requires : goal.schedule_of-requires
schedule_of-requires c = (_, _, c.in_ok-scout.ensures.at)

pub step_along-requires : goal.step_along-requires
step_along-requires c = (_, _, c.in_ok-machine.ensures.at)
