use Rattle.std.proofs.Common.{rules, ◌<◌, length, refl}
use Rattle.std.proofs.lemmas.Option.{slice_get_within}
use Rattle.interp_calls.proofs.TableCalls.{indirect_pops, indirect_pops_again, indirect_heard}
use Rattle.interp_calls.proofs.indirect.call_indirect_replied.Goals as goal

pub pop-requires : goal.pop-requires
pop-requires c = indirect_pops c.args.state.now c.args.type_index c.requires

pub pop-requires-2 : goal.pop-requires-2
pop-requires-2 c = indirect_pops_again c.args.state.now c.args.type_index c.pop.result c.pop.new.values.items c.requires c.pop.ensures.word

pub overflow_add-state : goal.overflow_add-state
overflow_add-state c =
    let h : c.args.state.now.pc < length c.args.state.now.code.now = slice_get_within _ _ _ c.requires.here in search rules

pub returns : goal.returns
returns c = λ number w k v st.
    indirect_heard w c.args.state.now _ k c.args.type_index number c.pop.result c.pop-2.result c.pop.new.values.items v
    st c.requires refl refl refl refl c.pop.ensures.word c.pop-2.ensures.word
