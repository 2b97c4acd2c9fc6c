use Rattle.std.proofs.Common.{◌<◌, ℕ, List, length, get_or, sym, subst, arith, below_more}
use Rattle.std.specs.List.{Contains}
use Rattle.search_fairness.specs.Leaving.{HasNoLeaver}
use Rattle.search_fairness.proofs.Never.{never-left}
use Rattle.search_fairness.proofs.parted.Parted.mover_of.Goals as goal

pub loop-index-preserved : goal.loop-index-preserved
loop-index-preserved c =
    let s = c.args.self.now in
    below_more (λ (k : ℕ). HasNoLeaver s.graph.now.moves.items s.out s.found c.args.component (get_or c.moves_of-index-items.result.now k 0))
    c.loop-index.index-index c.loop-index.invariant c.in_default.ensures

pub returns : goal.returns
returns c =
    let s = c.args.self.now in
    let first = c.in_ok-first.first.now in
    let found = c.in_ok-first.ensures.item.3 in
    never-left s.graph.now.moves.items s.out s.found c.args.component first
    (subst (λ (xs : List ℕ). Contains xs first) c.members_of.ensures (0, found.0, sym (found.1 first)))
    (subst (λ (xs : List ℕ). (k : ℕ) → k < length xs → HasNoLeaver s.graph.now.moves.items s.out s.found c.args.component (get_or xs k 0))
    c.moves_of-index-items.ensures (λ k low. c.loop-index.invariant k (omega arith)))
