use Rattle.std.proofs.Common.{rules, ◌<◌, length, refl}
use Rattle.std.proofs.lemmas.Option.{slice_get_within}
use Rattle.interp_control.proofs.Values.{fences}
use Rattle.interp_control.proofs.variables.fence.Goals as goal

pub overflow_add-state : goal.overflow_add-state
overflow_add-state c =
    let h : c.args.state.now.pc < length c.args.state.now.code.now = slice_get_within _ _ _ c.requires.here in search rules

pub returns-clause-step : goal.returns-clause-step
returns-clause-step c = λ w k v st. fences w c.args.state.now _ k st c.requires refl refl refl refl refl
