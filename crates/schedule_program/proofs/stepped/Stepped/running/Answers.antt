use Rattle.std.proofs.Common.{refl}
use Rattle.schedule.specs.Machine.{Thread.Runs}
use Rattle.interp_machine.specs.State.{At}
use Rattle.schedule_program.proofs.stepped.Stepped.running.Goals as goal

pub returns : goal.returns
returns g c s config alike stands = c.goes_on.ensures s (Runs (At config) s.fuel) alike stands tt refl
