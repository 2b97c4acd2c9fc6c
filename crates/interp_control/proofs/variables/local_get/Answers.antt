use Rattle.std.proofs.Common.{rules, ◌≡◌, ◌≢◌, ◌<◌, length, refl}
use Rattle.std.proofs.lemmas.Option.{slice_get_within}
use Rattle.types.specs.declared.limits.TheConstants.{MOST_VALUES}
use Rattle.interp_control.proofs.Slots.{local_get_ready, local_get_full, local_gets}
use Rattle.interp_control.proofs.variables.local_get.Goals as goal

pub overflow_add-state : goal.overflow_add-state
overflow_add-state c =
    let h : c.args.state.now.pc < length c.args.state.now.code.now = slice_get_within _ _ _ c.requires.here in search rules

pub overflow_add-place : goal.overflow_add-place
overflow_add-place c = let h = local_get_ready c.args.state.now c.args.index c.requires in search rules

pub index-value-requires : goal.index-value-requires
index-value-requires c = let h = local_get_ready c.args.state.now c.args.index c.requires in search rules

pub returns-then-len-eq-MOST_VALUES-clause-step : goal.returns-then-len-eq-MOST_VALUES-clause-step
returns-then-len-eq-MOST_VALUES-clause-step c = let e : length c.args.state.now.values.items ≡ MOST_VALUES = search rules in
    λ w k v st. local_get_full w c.args.state.now _ k c.args.index st c.requires e

pub returns-clause-step : goal.returns-clause-step
returns-clause-step c = let e : length c.args.state.now.values.items ≢ MOST_VALUES = search rules in
    λ w k v st. local_gets w c.args.state.now _ k c.args.index c.index-value.result.now st c.requires
    c.index-value.ensures c.push.ensures.word e refl refl refl refl
