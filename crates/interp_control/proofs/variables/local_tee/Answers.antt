use Rattle.std.proofs.Common.{rules, ◌<◌, length, refl}
use Rattle.std.proofs.lemmas.Option.{slice_get_within}
use Rattle.interp_state.proofs.Tops.{below_replaced}
use Rattle.interp_state.proofs.Views.{shrunk}
use Rattle.interp_control.proofs.Slots.{local_tee_ready, local_tee_place, local_tees}
use Rattle.interp_control.proofs.variables.local_tee.Goals as goal

pub overflow_add-state : goal.overflow_add-state
overflow_add-state c =
    let h : c.args.state.now.pc < length c.args.state.now.code.now = slice_get_within _ _ _ c.requires.here in search rules

pub top-value-requires : goal.top-value-requires
top-value-requires c = local_tee_ready c.args.state.now c.args.index c.requires

pub overflow_add-place : goal.overflow_add-place
overflow_add-place c =
    let h = local_tee_place c.args.state.now c.args.index c.top-value.result c.top-value.ensures.0 c.requires c.top-value.ensures.1 in
    let e = shrunk c.args.state.now.values.items c.top-value.ensures.0 c.top-value.result c.top-value.ensures.1 in search rules

pub index_mut-requires : goal.index_mut-requires
index_mut-requires c =
    let h = local_tee_place c.args.state.now c.args.index c.top-value.result c.top-value.ensures.0 c.requires c.top-value.ensures.1 in
    let e = shrunk c.args.state.now.values.items c.top-value.ensures.0 c.top-value.result c.top-value.ensures.1 in search rules

pub returns : goal.returns
returns c =
    let below = c.top-value.ensures.0 in
    let there = local_tee_place c.args.state.now c.args.index c.top-value.result below c.requires c.top-value.ensures.1 in
    λ w k v st. local_tees w c.args.state.now _ k c.args.index c.top-value.result below
    _ st c.requires c.top-value.ensures.1 refl
    (below_replaced c.args.state.now.values.items below c.top-value.result c.top-value.result _ c.top-value.ensures.1 there) refl refl refl refl
