use Rattle.std.proofs.Common.{rules, ◌<◌, length, refl, ◌∙◌}
use Rattle.std.proofs.lemmas.Option.{slice_get_within}
use Rattle.types.specs.declared.limits.TheConstants.{MOST_VALUES}
use Rattle.interp_numeric.specs.Integers.{wrap}
use Rattle.interp_accesses.proofs.Paging.{size_room, size_replied}
use Rattle.interp_accesses.proofs.pages.memory_size_replied.Goals as goal

pub push-requires : goal.push-requires
push-requires c = let h : length c.args.state.now.values.items < MOST_VALUES = size_room c.args.state.now c.requires in search rules

pub overflow_add-state : goal.overflow_add-state
overflow_add-state c =
    let h : c.args.state.now.pc < length c.args.state.now.code.now = slice_get_within _ _ _ c.requires.here in search rules

pub returns : goal.returns
unfolding wrap
returns c = λ w k v st. size_replied w c.args.state.now _ k c.args.number _ st c.requires (c.from.ensures ∙ c.i32_wrap_i64.ensures) refl refl refl refl
    c.push.ensures.word
