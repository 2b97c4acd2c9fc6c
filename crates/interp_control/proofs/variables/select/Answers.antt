use Rattle.std.proofs.Common.{rules, ◌<◌, [], ◌∷◌, length, reverse, refl}
use Rattle.std.proofs.lemmas.Option.{slice_get_within}
use Rattle.interp_control.proofs.Values.{select_ready, selects}
use Rattle.interp_state.proofs.Views.{tops_below, some_on}
use Rattle.interp_control.proofs.variables.select.Goals as goal

pub overflow_add-state : goal.overflow_add-state
overflow_add-state c =
    let h : c.args.state.now.pc < length c.args.state.now.code.now = slice_get_within _ _ _ c.requires.here in search rules

pub pop_i32-number-requires : goal.pop_i32-number-requires
pop_i32-number-requires c = let t = select_ready c.args.state.now c.requires in (t.1.0, t.1.1, (t.0 ∷ (t.0 ∷ t.1.2.0), t.1.2.1))

pub pop-second-requires : goal.pop-second-requires
pop-second-requires c = let t = select_ready c.args.state.now c.requires in
    some_on c.pop_i32-number.new.values.items t.0 (t.0 ∷ [])
    (tops_below _ _ _ _ (t.0 ∷ (t.0 ∷ [])) t.1 c.pop_i32-number.ensures.word)

pub top-first-requires : goal.top-first-requires
top-first-requires c = let t = select_ready c.args.state.now c.requires in
    some_on c.pop-second.new.values.items t.0 []
    (tops_below _ _ _ _ (t.0 ∷ []) (tops_below _ _ _ _ (t.0 ∷ (t.0 ∷ [])) t.1 c.pop_i32-number.ensures.word) c.pop-second.ensures.word)

pub returns : goal.returns
returns c = λ w k v st. selects w c.args.state.now _ k c.pop_i32-number.result c.pop-second.result c.top-first.result _
    _ _ (reverse c.top-first.ensures.0) st c.requires c.pop_i32-number.ensures.word c.pop-second.ensures.word c.top-first.ensures.1
    (search rules) (c.replace_top.ensures.word c.top-first.result c.top-first.ensures.0 c.top-first.ensures.1) refl refl refl refl
