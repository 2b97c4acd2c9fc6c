use Rattle.std.proofs.Common.{reverse, refl, sym, ap₂, subst, ◌∙◌}
use Rattle.std.proofs.lemmas.Option.{slice_get_within}
use Rattle.types.specs.Widths.{access_type}
use Rattle.interp_machine.specs.Access.{in_one_word}
use Rattle.interp_accesses.specs.Done.{AreTop}
use Rattle.interp_state.proofs.Events.{continues}
use Rattle.interp_accesses.proofs.Storing.{store_ready, two_long, store_done, store_halved, store_finished}
use Rattle.interp_accesses.proofs.stores.store_replied.Goals as goal

pub top_two-base-requires : goal.top_two-base-requires
top_two-base-requires c = (access_type c.args.width, rw c.deref.ensures.value (store_ready _ _ _ (continues _ _ c.requires)))

pub drop_two-requires-clause-here : goal.drop_two-requires-clause-here
drop_two-requires-clause-here c = slice_get_within _ _ _ c.requires.here

pub drop_two-requires-in-Halfway-clause-here : goal.drop_two-requires-in-Halfway-clause-here
drop_two-requires-in-Halfway-clause-here c = slice_get_within _ _ _ c.requires.here

pub returns-then-is_in_one_word : goal.returns-then-is_in_one_word
returns-then-is_in_one_word c = λ number w k v st.
    store_done w c.args.state.now _ k c.args.width c.args.arg c.top_two-base.result.0 c.top_two-base.result.1 number st (continues _ _ c.requires)
    (subst (λ items. AreTop (reverse items) c.top_two-base.result.0 c.top_two-base.result.1) c.deref.ensures.value c.top_two-base.ensures) c.in-Fresh.is
    (sym (ap₂ in_one_word c.effective.ensures c.bytes.ensures) ∙ sym c.is_in_one_word.ensures ∙ c.if-is_in_one_word.true)
    c.drop_two.ensures

pub returns-else-is_in_one_word : goal.returns-else-is_in_one_word
returns-else-is_in_one_word c = λ number w k v st.
    store_halved w c.args.state.now _ k c.args.width c.args.arg c.top_two-base.result.0 c.top_two-base.result.1 number st (continues _ _ c.requires)
    (subst (λ items. AreTop (reverse items) c.top_two-base.result.0 c.top_two-base.result.1) c.deref.ensures.value c.top_two-base.ensures) c.in-Fresh.is
    (sym (ap₂ in_one_word c.effective.ensures c.bytes.ensures) ∙ sym c.is_in_one_word.ensures ∙ c.if-is_in_one_word.false)
    refl refl refl refl refl

pub returns-in-Halfway : goal.returns-in-Halfway
returns-in-Halfway c = λ number w k v st.
    store_finished w c.args.state.now _ k c.args.width c.args.arg _ number st (continues _ _ c.requires) c.in-Halfway.is c.drop_two-in-Halfway.ensures

pub drop_two-requires-clause-two : goal.drop_two-requires-clause-two
drop_two-requires-clause-two c = two_long c.args.state.now.values.items _ (store_ready _ _ _ (continues _ _ c.requires))

pub drop_two-requires-in-Halfway-clause-two : goal.drop_two-requires-in-Halfway-clause-two
drop_two-requires-in-Halfway-clause-two c = two_long c.args.state.now.values.items _ (store_ready _ _ _ (continues _ _ c.requires))
