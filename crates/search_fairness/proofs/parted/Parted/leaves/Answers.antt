use Rattle.std.proofs.Common.{◌≡◌, ◌<◌, ◌∙◌, ℕ, List, get_or, true≢false, refl, sym, subst, arith, below_more}
use Rattle.std.specs.List.{All}
use Rattle.std.proofs.lemmas.List.Elements.{All-get_or, All-from_get_or}
use Rattle.search_fairness.specs.Leaving.{LeavesAt}
use Rattle.search_fairness.proofs.parted.Parted.leaves.Goals as goal

pub loop-state-preserved : goal.loop-state-preserved
loop-state-preserved c =
    let s = c.args.self.now in
    below_more (λ (k : ℕ). LeavesAt s.graph.now.moves.items s.out s.found.of.items c.args.component c.args.thread
    (get_or c.members_of-state-items.result.now k 0))
    c.loop-state.state-index c.loop-state.invariant (c.leaves_at.ensures.0 c.if-not-leaves_at.false)

pub returns-then-not-leaves_at : goal.returns-then-not-leaves_at
returns-then-not-leaves_at c =
    let s = c.args.self.now in
    let P : ℕ → Type 0 = LeavesAt s.graph.now.moves.items s.out s.found.of.items c.args.component c.args.thread in
    let xs = c.members_of-state-items.result.now in (
      λ e. absurd (cc e),
      λ l. absurd (true≢false (sym (c.leaves_at.ensures.1 (All-get_or P xs c.loop-state.state-index 0 (omega arith)
          (subst (λ (ys : List ℕ). All P ys) (sym c.members_of-state-items.ensures) l.at))) ∙ c.if-not-leaves_at.true)),
    )

pub returns : goal.returns
returns c =
    let s = c.args.self.now in
    let P : ℕ → Type 0 = LeavesAt s.graph.now.moves.items s.out s.found.of.items c.args.component c.args.thread in
    let xs = c.members_of-state-items.result.now in (
      λ _. record {
        at = subst (λ (ys : List ℕ). All P ys) c.members_of-state-items.ensures
            (All-from_get_or P xs 0 (λ k low. c.loop-state.invariant k (omega arith)));
      },
      λ _. refl,
    )
