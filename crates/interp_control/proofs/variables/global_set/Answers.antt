use Rattle.std.proofs.Common.{rules, ◌<◌, length, refl, sym, ◌∙◌, subst}
use Rattle.std.proofs.lemmas.Option.{slice_get_within}
use Rattle.interp_control.proofs.Slots.{global_set_ready, global_word, global_sets}
use Rattle.interp_state.specs.Words.{IsWord}
use Rattle.interp_control.proofs.variables.global_set.Goals as goal

pub overflow_add-state : goal.overflow_add-state
overflow_add-state c =
    let h : c.args.state.now.pc < length c.args.state.now.code.now = slice_get_within _ _ _ c.requires.here in search rules

pub pop-word-requires : goal.pop-word-requires
pop-word-requires c = (global_set_ready c.args.state.now c.args.index c.requires).0

pub index_mut-global-requires : goal.index_mut-global-requires
index_mut-global-requires c = let h = (global_set_ready c.args.state.now c.args.index c.requires).1 in search rules

pub value_of-requires : goal.value_of-requires
value_of-requires c =
    subst (λ t. IsWord t c.pop-word.result) (sym c.val_type.ensures)
    (global_word c.args.state.now c.args.index c.pop-word.result _ c.index_mut-global.result.now c.requires c.pop-word.ensures.word
    c.index_mut-global.ensures.value)

pub returns : goal.returns
returns c = λ w k v st. global_sets w c.args.state.now _ k c.args.index c.pop-word.result c.index_mut-global.result.now c.value_of.result st c.requires
    c.pop-word.ensures.word c.index_mut-global.ensures.value (c.value_of.ensures.typed ∙ c.val_type.ensures) c.value_of.ensures.word refl refl refl refl
