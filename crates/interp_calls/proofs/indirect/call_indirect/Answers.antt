use Rattle.std.proofs.Common.{rules, ◌≡◌, ℕ, List, [], ◌∷◌, ◌-◌, length, reverse, take, Some, None, refl, sym, ◌∙◌, ap, subst, arith}
use Rattle.types.specs.declared.value.ValType.TheVariants as types
use Rattle.interp_state.specs.Words.{HasWords}
use Rattle.interp_state.proofs.Views.{some_on}
use Rattle.interp_calls.proofs.TableCalls.{indirect_asks, indirect_undefined, indirect_empty, element_typed}
use Rattle.interp_calls.proofs.TableCalls.{stated_there, indirect_differs, found_by, argument_there, below_top}
use Rattle.interp_calls.proofs.TableCalls.{read_at, indirect_wants, indirect_ready, indirect_enters}
use Rattle.interp_calls.proofs.indirect.call_indirect.Goals as goal

pub top_i32-place-requires : goal.top_i32-place-requires
top_i32-place-requires c = rw c.as_slice.ensures.value (indirect_asks c.args.state.now c.args.type_index c.requires.begins)

pub returns-in-None-clause-step : goal.returns-in-None-clause-step
returns-in-None-clause-step c = λ w k v st.
    indirect_undefined w c.args.state.now k c.args.type_index c.top_i32-place.result c.top_i32-place.ensures.0 st c.requires.begins
    (ap reverse (sym c.as_slice.ensures.value) ∙ c.top_i32-place.ensures.1)
    (read_at c.args.state.now.program.elements.items _ _ _ None c.element_at.ensures c.as_slice-2.ensures.value c.in-None.is)

pub returns-in-Some-None-clause-step : goal.returns-in-Some-None-clause-step
returns-in-Some-None-clause-step c = λ w k v st.
    indirect_empty w c.args.state.now k c.args.type_index c.top_i32-place.result c.top_i32-place.ensures.0 st c.requires.begins
    (ap reverse (sym c.as_slice.ensures.value) ∙ c.top_i32-place.ensures.1)
    (read_at c.args.state.now.program.elements.items _ _ _ (Some None) c.element_at.ensures c.as_slice-2.ensures.value
    (c.in-Some-None.is ∙ ap Some c.in-Some-None.field-0-is))

pub is_of_type-requires-clause-function : goal.is_of_type-requires-clause-function
is_of_type-requires-clause-function c =
    element_typed c.args.state.now c.args.type_index c.top_i32-place.result c.in-Some-Some.function c.requires.begins
    (read_at c.args.state.now.program.elements.items _ _ _ (Some (Some c.in-Some-Some.function)) c.element_at.ensures
    c.as_slice-2.ensures.value (c.in-Some-Some.is ∙ ap Some c.in-Some-Some.field-0-is))

pub is_of_type-requires-clause-stated : goal.is_of_type-requires-clause-stated
is_of_type-requires-clause-stated c = stated_there c.args.state.now c.args.type_index c.requires.begins

pub returns-then-not-is_of_type-clause-step : goal.returns-then-not-is_of_type-clause-step
returns-then-not-is_of_type-clause-step c = λ w k v st.
    let element = read_at c.args.state.now.program.elements.items _ _ _ (Some (Some c.in-Some-Some.function))
    c.element_at.ensures c.as_slice-2.ensures.value (c.in-Some-Some.is ∙ ap Some c.in-Some-Some.field-0-is) in
    let t = element_typed c.args.state.now c.args.type_index c.top_i32-place.result c.in-Some-Some.function c.requires.begins element in
    let stated = stated_there c.args.state.now c.args.type_index c.requires.begins in
    indirect_differs w c.args.state.now k c.args.type_index c.top_i32-place.result c.in-Some-Some.function
    c.top_i32-place.ensures.0 t.0 stated.0 st c.requires.begins
    (ap reverse (sym c.as_slice.ensures.value)
    ∙ c.top_i32-place.ensures.1) element t.1 stated.1 (sym (c.is_of_type.ensures t.0 stated.0 t.1 stated.1)
    ∙ c.if-not-is_of_type.true)

pub top_i32-arg-requires : goal.top_i32-arg-requires
top_i32-arg-requires c =
    let element = read_at c.args.state.now.program.elements.items _ _ _ (Some (Some c.in-Some-Some.function))
    c.element_at.ensures c.as_slice-2.ensures.value (c.in-Some-Some.is ∙ ap Some c.in-Some-Some.field-0-is) in
    let top = ap reverse (sym c.as_slice.ensures.value) ∙ c.top_i32-place.ensures.1 in
    let found = found_by c.args.state.now c.args.type_index c.top_i32-place.result c.in-Some-Some.function
    c.top_i32-place.ensures.0 c.is_of_type.result c.requires.begins top element c.is_of_type.ensures
    c.if-not-is_of_type.false in
    let x = argument_there c.args.state.now c.args.type_index c.top_i32-place.result c.in-Some-Some.function
    c.top_i32-place.ensures.0 c.requires.begins c.if-function-imported.true found top in
    let long : c.len.result ≡ length c.args.state.now.values.items = search rules in
    let below = below_top c.args.state.now.values.items c.top_i32-place.ensures.0 c.top_i32-place.result c.len.result top long in
    rw c.deref.ensures.value (subst (HasWords (types.I32 ∷ [])) (sym below) x)

pub returns-then-function-imported-clause-step : goal.returns-then-function-imported-clause-step
returns-then-function-imported-clause-step c = λ w k v st.
    let element = read_at c.args.state.now.program.elements.items _ _ _ (Some (Some c.in-Some-Some.function))
    c.element_at.ensures c.as_slice-2.ensures.value (c.in-Some-Some.is ∙ ap Some c.in-Some-Some.field-0-is) in
    let top = ap reverse (sym c.as_slice.ensures.value) ∙ c.top_i32-place.ensures.1 in
    let found = found_by c.args.state.now c.args.type_index c.top_i32-place.result c.in-Some-Some.function
    c.top_i32-place.ensures.0 c.is_of_type.result c.requires.begins top element c.is_of_type.ensures
    c.if-not-is_of_type.false in
    let long : c.len.result ≡ length c.args.state.now.values.items = search rules in
    let rest : c.top_i32-place.ensures.0 ≡ c.top_i32-arg.result ∷ c.top_i32-arg.ensures.0 =
    sym (below_top c.args.state.now.values.items c.top_i32-place.ensures.0 c.top_i32-place.result c.len.result top long)
    ∙ ap (λ (x : List ℕ). reverse (take (c.len.result - 1) x)) (sym c.deref.ensures.value) ∙ c.top_i32-arg.ensures.1 in
    indirect_wants w c.args.state.now k c.args.type_index c.top_i32-place.result c.in-Some-Some.function
    c.top_i32-arg.result c.top_i32-arg.ensures.0 v st c.requires.begins
    c.if-function-imported.true found (top ∙ ap (λ (x : List ℕ). c.top_i32-place.result ∷ x) rest)

pub enter-requires : goal.enter-requires
enter-requires c =
    let element = read_at c.args.state.now.program.elements.items _ _ _ (Some (Some c.in-Some-Some.function))
    c.element_at.ensures c.as_slice-2.ensures.value (c.in-Some-Some.is ∙ ap Some c.in-Some-Some.field-0-is) in
    let top = ap reverse (sym c.as_slice.ensures.value) ∙ c.top_i32-place.ensures.1 in
    let found = found_by c.args.state.now c.args.type_index c.top_i32-place.result c.in-Some-Some.function
    c.top_i32-place.ensures.0 c.is_of_type.result c.requires.begins top element c.is_of_type.ensures
    c.if-not-is_of_type.false in
    indirect_ready c.args.state.now _ c.args.type_index c.top_i32-place.result c.in-Some-Some.function c.pop.result
    c.requires.begins c.requires.bodies c.if-function-imported.false
    (record { same = refl; pc = refl; globals = refl; progress = refl }) c.pop.ensures.word found

pub returns-clause-step : goal.returns-clause-step
returns-clause-step c = rw c.came_to.ensures λ w k v st.
    let element = read_at c.args.state.now.program.elements.items _ _ _ (Some (Some c.in-Some-Some.function))
    c.element_at.ensures c.as_slice-2.ensures.value (c.in-Some-Some.is ∙ ap Some c.in-Some-Some.field-0-is) in
    let top = ap reverse (sym c.as_slice.ensures.value) ∙ c.top_i32-place.ensures.1 in
    let found = found_by c.args.state.now c.args.type_index c.top_i32-place.result c.in-Some-Some.function
    c.top_i32-place.ensures.0 c.is_of_type.result c.requires.begins top element c.is_of_type.ensures
    c.if-not-is_of_type.false in
    indirect_enters w c.args.state.now _ _ k _ c.args.type_index c.top_i32-place.result c.in-Some-Some.function
    c.pop.result v st c.requires.begins c.requires.bodies c.if-function-imported.false
    (record { same = refl; pc = refl; globals = refl; progress = refl }) c.pop.ensures.word found c.enter.ensures.entered

pub pop-requires : goal.pop-requires
pop-requires c = some_on c.args.state.now.values.items types.I32 [] (indirect_asks c.args.state.now c.args.type_index c.requires.begins)

pub slice_bounds-top_i32-count : goal.slice_bounds-top_i32-count
slice_bounds-top_i32-count c =
    let some = some_on c.args.state.now.values.items types.I32 [] (indirect_asks c.args.state.now c.args.type_index c.requires.begins) in
    let long : c.len.result ≡ length c.args.state.now.values.items = search rules in omega arith

pub returns-clause-stays : goal.returns-clause-stays
returns-clause-stays c = rw c.came_to.ensures c.enter.ensures.stays
