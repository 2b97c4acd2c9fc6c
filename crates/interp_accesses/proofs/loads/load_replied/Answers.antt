use Rattle.std.proofs.Common.{[], refl, sym, ap₂, ◌%◌, ◌^◌, ◌∙◌}
use Rattle.std.proofs.lemmas.Option.{slice_get_within}
use Rattle.interp_machine.specs.Access.{in_one_word, joined}
use Rattle.interp_state.proofs.Events.{continues}
use Rattle.types.specs.declared.value.ValType.TheVariants.{I32}
use Rattle.interp_state.proofs.Views.{some_on}
use Rattle.interp_accesses.proofs.Loading.{load_ready, load_done, load_halved, load_joined}
use Rattle.interp_accesses.proofs.loads.load_replied.Goals as goal

pub top_i32-requires : goal.top_i32-requires
top_i32-requires c = load_ready _ _ _ (continues _ _ c.requires)

pub replace_top-requires-clause-here : goal.replace_top-requires-clause-here
replace_top-requires-clause-here c = slice_get_within _ _ _ c.requires.here

pub replace_top-requires-in-Halfway-clause-here : goal.replace_top-requires-in-Halfway-clause-here
replace_top-requires-in-Halfway-clause-here c = slice_get_within _ _ _ c.requires.here

pub returns-then-is_in_one_word : goal.returns-then-is_in_one_word
returns-then-is_in_one_word c = λ w k v st.
    load_done w c.args.state.now _ k c.args.op c.args.arg c.top_i32.result c.args.number _ st (continues _ _ c.requires)
    (_, c.top_i32.ensures.1) c.in-Fresh.is
    (sym (ap₂ in_one_word c.effective-addr.ensures c.bytes.ensures) ∙ sym c.is_in_one_word.ensures ∙ c.if-is_in_one_word.true)
    c.loaded.ensures.word c.loaded.ensures.in_range c.replace_top.ensures

pub returns-else-is_in_one_word : goal.returns-else-is_in_one_word
returns-else-is_in_one_word c = λ w k v st.
    load_halved w c.args.state.now _ k c.args.op c.args.arg c.top_i32.result c.args.number st (continues _ _ c.requires)
    (_, c.top_i32.ensures.1) c.in-Fresh.is
    (sym (ap₂ in_one_word c.effective-addr.ensures c.bytes.ensures) ∙ sym c.is_in_one_word.ensures ∙ c.if-is_in_one_word.false)
    refl refl refl refl refl

pub returns-in-Halfway : goal.returns-in-Halfway
returns-in-Halfway c = λ w k v st.
    load_joined w c.args.state.now _ k c.args.op c.args.arg c.top_i32.result c.in-Halfway.low c.args.number _ _ st (continues _ _ c.requires)
    (_, c.top_i32.ensures.1) c.in-Halfway.is
    (c.join.ensures ∙ ap₂ (λ addr bytes. joined addr bytes c.in-Halfway.low c.args.number % 2 ^ 64) c.effective-addr.ensures c.bytes-in-Halfway.ensures)
    c.loaded-in-Halfway.ensures.word c.loaded-in-Halfway.ensures.in_range c.replace_top-in-Halfway.ensures

pub replace_top-requires-clause-some : goal.replace_top-requires-clause-some
replace_top-requires-clause-some c = some_on c.args.state.now.values.items I32 [] (load_ready _ _ _ (continues _ _ c.requires))

pub replace_top-requires-in-Halfway-clause-some : goal.replace_top-requires-in-Halfway-clause-some
replace_top-requires-in-Halfway-clause-some c = some_on c.args.state.now.values.items I32 [] (load_ready _ _ _ (continues _ _ c.requires))
