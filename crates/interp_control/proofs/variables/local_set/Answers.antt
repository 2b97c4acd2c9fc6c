use Rattle.std.proofs.Common.{rules, ◌<◌, length, refl}
use Rattle.std.proofs.lemmas.Option.{slice_get_within}
use Rattle.interp_control.proofs.Slots.{local_set_ready, local_set_place, local_sets}
use Rattle.interp_control.proofs.variables.local_set.Goals as goal

pub overflow_add-state : goal.overflow_add-state
overflow_add-state c =
    let h : c.args.state.now.pc < length c.args.state.now.code.now = slice_get_within _ _ _ c.requires.here in search rules

pub pop-value-requires : goal.pop-value-requires
pop-value-requires c = local_set_ready c.args.state.now c.args.index c.requires

pub index_mut-requires : goal.index_mut-requires
index_mut-requires c = let h = local_set_place c.args.state.now c.args.index c.pop-value.result
    c.pop-value.new.values.items c.requires c.pop-value.ensures.word in search rules

pub returns : goal.returns
returns c = λ w k v st. local_sets w c.args.state.now _ k c.args.index c.pop-value.result c.pop-value.new.values.items
    st c.requires c.pop-value.ensures.word refl refl refl refl refl

pub overflow_add-place : goal.overflow_add-place
overflow_add-place c = let h = local_set_place c.args.state.now c.args.index c.pop-value.result
    c.pop-value.new.values.items c.requires c.pop-value.ensures.word in search rules
