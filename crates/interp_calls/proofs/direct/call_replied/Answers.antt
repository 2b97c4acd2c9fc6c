use Rattle.std.proofs.Common.{rules, ◌<◌, length, refl}
use Rattle.std.proofs.lemmas.Option.{slice_get_within}
use Rattle.interp_calls.proofs.Replied.{call_pops, call_heard}
use Rattle.interp_calls.proofs.direct.call_replied.Goals as goal

pub pop-requires : goal.pop-requires
pop-requires c = call_pops c.args.state.now c.args.function c.requires

pub overflow_add-state : goal.overflow_add-state
overflow_add-state c =
    let h : c.args.state.now.pc < length c.args.state.now.code.now = slice_get_within _ _ _ c.requires.here in search rules

pub returns : goal.returns
returns c = λ number w k v st.
    call_heard w c.args.state.now _ k c.args.function number c.pop.result v st c.requires refl refl refl refl c.pop.ensures.word
