use Rattle.interp_state.proofs.Events.{comes_next}
use Rattle.interp_accesses.proofs.Paging.{grow_ready, grow_wants}
use Rattle.interp_accesses.proofs.pages.memory_grow.Goals as goal

pub top_i32-requires : goal.top_i32-requires
top_i32-requires c = grow_ready _ (comes_next _ _ c.requires)

pub returns-clause-step : goal.returns-clause-step
returns-clause-step c = λ w k v st.
    grow_wants w c.args.state.now k c.top_i32.result st c.requires
    (_, c.top_i32.ensures.1)
