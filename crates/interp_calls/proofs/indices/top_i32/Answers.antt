use Rattle.std.proofs.Common.{rules, ◌≡◌, ℕ, [], ◌∷◌, ◌-◌, ◌<◌, length, get_or, slice_index_or, subst, arith}
use Rattle.types.specs.declared.value.ValType.TheVariants.{I32}
use Rattle.interp_state.specs.Words.{HasWords, IsWord}
use Rattle.interp_state.proofs.Words.{first_word}
use Rattle.interp_state.proofs.Views.{some_on}
use Rattle.interp_state.proofs.Tops.{last_on_top}
use Rattle.interp_calls.proofs.indices.top_i32.Goals as goal

pub overflow_cast-result : goal.overflow_cast-result
overflow_cast-result c =
    let some : 0 < length c.args.values.now = some_on c.args.values.now I32 [] c.requires in
    let last : ℕ = slice_index_or c.args.values.now (length c.args.values.now - 1) 0 in
    let is : last ≡ get_or c.args.values.now (length c.args.values.now - 1) last = search rules in
    let narrow : IsWord I32 last = first_word I32 [] last _ (subst (HasWords (I32 ∷ [])) (last_on_top c.args.values.now last some is).1 c.requires) in
    search arith

pub overflow_sub-result : goal.overflow_sub-result
overflow_sub-result c = some_on c.args.values.now I32 [] c.requires

pub bounds-values-values : goal.bounds-values-values
bounds-values-values c = let some = some_on c.args.values.now I32 [] c.requires in omega arith

pub offset_bounds-values-values : goal.offset_bounds-values-values
offset_bounds-values-values c = let some : 0 < length c.args.values.now = some_on c.args.values.now I32 [] c.requires in search rules
