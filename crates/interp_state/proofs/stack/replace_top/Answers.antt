use Rattle.std.proofs.Common.{rules, ◌≡◌, ◌-◌, ◌∷◌, length, reverse, slice_set, subst, sym}
use Rattle.interp_state.proofs.Tops.{top_replaced}
use Rattle.interp_state.proofs.stack.replace_top.Goals as goal

pub returns-clause-word : goal.returns-clause-word
returns-clause-word c =
    λ top below h. let e : c.len-last.result ≡ length c.args.values.now.items = search rules in
    subst (λ n. reverse (slice_set c.args.values.now.items (n - 1) c.args.word) ≡ c.args.word ∷ reverse below) (sym e)
    (top_replaced c.args.values.now.items below top c.args.word h)
