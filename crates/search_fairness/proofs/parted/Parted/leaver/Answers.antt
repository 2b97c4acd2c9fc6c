use Rattle.std.proofs.Common.{◌≡◌, ◌∙◌, Some, true≢false, ap, sym, subst}
use Rattle.std.specs.List.{slice_get}
use Rattle.std.proofs.lemmas.Option.{slice_get-get_or}
use Rattle.search_graph.specs.declared.graph.Move.{Move}
use Rattle.search_fairness.specs.Leaving.{Leaves}
use Rattle.search_fairness.proofs.parted.Parted.leaver.Goals as goal

pub returns-then-leaves : goal.returns-then-leaves
returns-then-leaves c = c.leaves.ensures.0 c.if-leaves.true

pub returns-else-leaves : goal.returns-else-leaves
returns-else-leaves c = λ m is leaves.
    let s = c.args.self.now in
    let found = c.in_ok-m.ensures.lookup.3 in
    let here : slice_get c.deref.result.now c.args.index ≡ Some c.in_ok-m.m.now =
    slice_get-get_or c.deref.result.now c.args.index c.in_ok-m.m.now found.0 ∙ ap (λ z. Some z) (sym (found.1 c.in_ok-m.m.now)) in
    let items = c.deref.ensures.value in
    let same : c.in_ok-m.m.now ≡ m = cc (here, items, is) in
    true≢false (sym (c.leaves.ensures.1 (subst (λ (x : Move). Leaves s.graph.now.moves.items s.out s.found c.args.component x.thread) (sym same) leaves))
    ∙ c.if-leaves.false)
