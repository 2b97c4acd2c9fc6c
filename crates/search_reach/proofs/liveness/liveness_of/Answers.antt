use Rattle.std.proofs.Common.{◌≡◌, ℕ, length, arith, ap, subst, sym}
use Rattle.std.specs.Prelude.{Some}
use Rattle.std.specs.List.{slice_get}
use Rattle.search_reach.specs.Moved.{AreWaysIn, IsPathTo}
use Rattle.search_reach.proofs.liveness.liveness_of.Goals as goal

pub fair_runs_of-requires-clause-ways : goal.fair_runs_of-requires-clause-ways
fair_runs_of-requires-clause-ways g c =
    let moves = c.args.graph.now.moves.items in
    subst (AreWaysIn moves (length moves)) (sym c.as_slice.ensures.value)
    (subst (λ l. AreWaysIn l (length l) c.in_ok-ways.ways.items) c.as_slice-moves.ensures.value c.in_ok-ways.ensures.ways)

pub path_to-requires : goal.path_to-requires
path_to-requires g c =
    let moves = c.as_slice-moves.result.now in
    subst (AreWaysIn moves (length moves)) (sym c.as_slice-3.ensures.value) c.in_ok-ways.ensures.ways

pub returns-clause-live : goal.returns-clause-live
returns-clause-live g c = record {
  order = c.in_ok-endless.ensures.order;
  exact = c.in_ok-endless.ensures.exact;
  others = c.in_ok-endless.ensures.others;
  path = λ p first. (
      let graph = c.args.graph.now in
      let path = c.in_ok-path.path.items in
      let known : length c.as_slice-3.result.now ≡ graph.states =
      omega (arith, ap length c.as_slice-3.ensures.value, c.in_ok-ways.ensures.len, c.in_ok-ways.ways.ok) in
      let one = c.first_of-first.ensures p (subst (λ l. slice_get l 0 ≡ Some p) (sym c.as_slice-2.ensures.value) first) in
      subst (λ (n : ℕ). IsPathTo graph.moves.items graph.states path n) one
      (subst (λ (n : ℕ). IsPathTo graph.moves.items n path c.first_of-first.result) known
      (subst (λ l. IsPathTo l (length c.as_slice-3.result.now) path c.first_of-first.result) c.as_slice-moves.ensures.value c.in_ok-path.ensures)));
  fair_runs = c.in_ok-fair_runs.ensures;
}
