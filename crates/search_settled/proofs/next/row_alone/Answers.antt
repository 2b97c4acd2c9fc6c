use Rattle.std.proofs.Common.{◌+◌, [], ◌∷◌, ◌++◌, ap, refl, ◌∙◌}
use Rattle.search_settled.proofs.Nexting.{set-behind}
use Rattle.search_settled.proofs.next.row_alone.Goals as goal

pub returns : goal.returns
returns c =
    set-behind c.args.shared c.args.numbers.now c.extend_from_slice.new.self.items c.args.n (c.args.n + 1) c.args.thread refl
    (c.in_ok-extend_from_slice.ensures.items
    ∙ ap (λ l. l ++ c.args.numbers.now) (c.in_ok-push.ensures.items ∙ ap (λ l. l ++ c.args.shared ∷ []) c.in_ok-row.ensures.items))
