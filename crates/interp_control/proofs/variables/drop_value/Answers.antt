use Rattle.std.proofs.Common.{rules, ◌<◌, length, refl}
use Rattle.std.proofs.lemmas.Option.{slice_get_within}
use Rattle.interp_control.proofs.Values.{drops, drop_ready}
use Rattle.interp_control.proofs.variables.drop_value.Goals as goal

pub pop-requires : goal.pop-requires
pop-requires c = drop_ready _ c.requires

pub overflow_add-state : goal.overflow_add-state
overflow_add-state c =
    let h : c.args.state.now.pc < length c.args.state.now.code.now = slice_get_within _ _ _ c.requires.here in search rules

pub returns : goal.returns
returns c = λ w k v st. drops w c.args.state.now _ k c.pop.result st c.requires c.pop.ensures.word refl refl refl refl
