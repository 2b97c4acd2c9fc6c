use Rattle.std.proofs.Common.{ap, sym, ◌∙◌, reverse}
use Rattle.interp_calls.proofs.Calls.{call_asks, call_wants, call_ready, call_enters}
use Rattle.interp_calls.proofs.direct.call.Goals as goal

pub top_i32-arg-requires : goal.top_i32-arg-requires
top_i32-arg-requires c = rw c.as_slice.ensures.value (call_asks c.args.state.now c.args.function c.requires.begins c.if-function-imported.true)

pub returns-then-function-imported-clause-step : goal.returns-then-function-imported-clause-step
returns-then-function-imported-clause-step c = λ w k v st.
    call_wants w c.args.state.now k c.args.function c.top_i32-arg.result c.top_i32-arg.ensures.0 v st c.requires.begins c.if-function-imported.true
    (ap reverse (sym c.as_slice.ensures.value) ∙ c.top_i32-arg.ensures.1)

pub enter-requires : goal.enter-requires
enter-requires c = call_ready c.args.state.now c.args.function c.requires.begins c.requires.bodies c.if-function-imported.false

pub returns-clause-step : goal.returns-clause-step
returns-clause-step c = rw c.came_to.ensures λ w k v st.
    call_enters w c.args.state.now _ k _ c.args.function v st c.requires.begins c.requires.bodies c.if-function-imported.false c.enter.ensures.entered

pub returns-clause-stays : goal.returns-clause-stays
returns-clause-stays c = rw c.came_to.ensures c.enter.ensures.stays
