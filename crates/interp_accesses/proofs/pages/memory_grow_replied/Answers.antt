use Rattle.std.proofs.Common.{[], ◌∙◌}
use Rattle.interp_numeric.specs.Integers.{wrap}
use Rattle.types.specs.declared.value.ValType.TheVariants.{I32}
use Rattle.std.proofs.lemmas.Option.{slice_get_within}
use Rattle.interp_state.proofs.Events.{continues}
use Rattle.interp_state.proofs.Views.{some_on}
use Rattle.interp_accesses.proofs.Paging.{grow_ready, grow_replied}
use Rattle.interp_accesses.proofs.pages.memory_grow_replied.Goals as goal

pub returns : goal.returns
unfolding wrap
returns c = λ w k v st. grow_replied w c.args.state.now _ k c.args.number _ st c.requires (c.from.ensures ∙ c.i32_wrap_i64.ensures) c.replace_top.ensures

pub replace_top-requires-clause-here : goal.replace_top-requires-clause-here
replace_top-requires-clause-here c = slice_get_within _ _ _ c.requires.here

pub replace_top-requires-clause-some : goal.replace_top-requires-clause-some
replace_top-requires-clause-some c = some_on c.args.state.now.values.items I32 [] (grow_ready c.args.state.now (continues _ _ c.requires))
