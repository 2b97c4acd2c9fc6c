use Rattle.std.proofs.Common.{reverse, ap₂, subst, ◌∙◌}
use Rattle.types.specs.Widths.{access_type}
use Rattle.interp_machine.specs.Access.{first_store, second_store, cut}
use Rattle.interp_accesses.specs.Done.{AreTop}
use Rattle.interp_accesses.proofs.Storing.{store_ready, store_first, store_second}
use Rattle.interp_accesses.proofs.stores.store.Goals as goal

pub top_two-base-requires : goal.top_two-base-requires
top_two-base-requires c = (access_type c.args.width, rw c.deref.ensures.value (store_ready _ _ _ c.requires))

pub returns-in-Fresh : goal.returns-in-Fresh
returns-in-Fresh c = λ w k v st.
    store_first w c.args.state.now k c.args.width c.args.arg c.top_two-base.result.0 c.top_two-base.result.1 _ st c.requires
    (subst (λ items. AreTop (reverse items) c.top_two-base.result.0 c.top_two-base.result.1) c.deref.ensures.value c.top_two-base.ensures) c.in-Fresh.is
    (c.low_store.ensures ∙ ap₂ (λ addr bytes. first_store addr bytes (cut bytes c.top_two-base.result.1)) c.effective-addr.ensures c.bytes.ensures)

pub returns-in-Halfway : goal.returns-in-Halfway
returns-in-Halfway c = λ w k v st.
    store_second w c.args.state.now k c.args.width c.args.arg c.top_two-base.result.0 c.top_two-base.result.1 _ _ st c.requires
    (subst (λ items. AreTop (reverse items) c.top_two-base.result.0 c.top_two-base.result.1) c.deref.ensures.value c.top_two-base.ensures) c.in-Halfway.is
    (c.high_store.ensures ∙ ap₂ (λ addr bytes. second_store addr bytes (cut bytes c.top_two-base.result.1)) c.effective-addr.ensures c.bytes-in-Halfway.ensures)
