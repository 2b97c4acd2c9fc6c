use Rattle.std.proofs.Common.{◌↔◌, ◌∙◌, IsTrue, subst, sym, true≢false}
use Rattle.search_graph.specs.Graph.{CanMove}
use Rattle.search_graph.specs.Ranks.{AreRanks, mover_at}
use Rattle.search_graph.proofs.Marks.{newly}
use Rattle.search_graph.proofs.Checked.{sure, are-ranks, none-unmarked}
use Rattle.search_graph.proofs.Fairness.{fair-runs-end}
use Rattle.search_graph.proofs.ranks.every_fair_run_ends.Goals as goal
use Rattle.search_graph.proofs.ranks.every_fair_run_ends.Goals.{then-ranks_fall, else-ranks_fall}

pub returns-clause-exact : goal.returns-clause-exact
returns-clause-exact c =
    let moves = c.as_slice-moves.result.now in
    let ranks = c.args.ranks.now in
    let movers = c.args.movers.now in
    let states = c.args.graph.now.states in
    let marks = c.ranks_fall.new.marks in
    let checked = c.ranks_fall.ensures in
    let empty = c.as_mut_slice-marks.ensures.value ∙ c.in_ok-room.ensures.items_if_clones_equal (λ y e. e) in
    subst (λ ms. IsTrue c.if-ranks_fall.result ↔ AreRanks ms states ranks movers) c.as_slice-moves.ensures.value
    (elim c.if-ranks_fall.branch [
      | then-ranks_fall w ↦ (
        λ h. are-ranks moves ranks movers states marks c.if-ranks-graph.false (checked.falls.0 w.if-ranks_fall.true)
            (λ s m. newly (λ v. CanMove moves v (mover_at ranks movers v)) c.as_mut_slice-marks.result.now states s empty (checked.sound s m))
            (w.all_are_marked.ensures.all (sym w.result-is ∙ h)),
        λ ok. w.result-is ∙ sure w.all_are_marked.result
            (λ e. none-unmarked moves ranks movers states marks ok (checked.all w.if-ranks_fall.true) (w.all_are_marked.ensures.some e)),
      )
      | else-ranks_fall w ↦ (
        λ h. absurd (true≢false (sym h ∙ (w.result-is ∙ w.if-ranks_fall.false))),
        λ ok. absurd (true≢false (sym (checked.falls.1 ok.falls) ∙ w.if-ranks_fall.false)),
      )
    ])

pub returns-clause-ends : goal.returns-clause-ends
returns-clause-ends c h =
    fair-runs-end c.args.graph.now.moves.items c.args.graph.now.states c.args.ranks.now c.args.movers.now ((returns-clause-exact c).0 h)
