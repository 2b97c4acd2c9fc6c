use Rattle.interp_control.proofs.Values.{traps_there}
use Rattle.interp_control.proofs.variables.unreachable_instr.Goals as goal

pub returns-clause-step : goal.returns-clause-step
returns-clause-step c = λ w k v st. traps_there w c.args.state.now _ k st c.requires
