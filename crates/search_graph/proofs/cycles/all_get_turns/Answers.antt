use Rattle.std.proofs.Common.{arith, ◌<◌, ◌≡◌, ◌∙◌, length, subst, sym, refl, All, true≢false}
use Rattle.std.proofs.lemmas.List.Elements.{All-contains, All-more}
use Rattle.search_graph.specs.declared.graph.Move.{Move}
use Rattle.search_graph.specs.Graph.{CanMove, move_at}
use Rattle.search_graph.specs.Round.{GetsTurnIn}
use Rattle.search_graph.proofs.Marks.{can-move, past}
use Rattle.search_graph.proofs.cycles.all_get_turns.Goals as goal
use Rattle.search_graph.proofs.cycles.all_get_turns.Goals.{else-m-start-via-then-m-start+in_ok-gets_turn+else-not-branch, else-m-start-via-else-m-start}

pub returns-then-not-branch : goal.returns-then-not-branch
returns-then-not-branch c =
    let moves = c.as_slice-moves.result.now in
    let m = move_at moves c.loop-m.m-index in
    let can : CanMove c.args.graph.now.moves.items c.args.start m.thread = subst (λ ms. CanMove ms c.args.start m.thread) c.as_slice-moves.ensures.value
    (subst (λ s. CanMove moves s m.thread) c.if-m-start.true (can-move moves c.loop-m.m-index m.thread (omega arith) refl)) in (
      λ h. absurd (true≢false (sym h)),
      λ all. sym c.if-not-branch.true ∙ c.in_ok-gets_turn.ensures.1
          (subst (λ ms. GetsTurnIn ms c.args.walk.now m.thread) (sym c.as_slice-moves.ensures.value) (all m.thread can)),
    )

pub loop-m-preserved : goal.loop-m-preserved
loop-m-preserved c =
    let moves = c.as_slice-moves.result.now in
    let i = c.loop-m.m-index in
    let within : i < length moves = omega arith in
    All-more (λ v. v.from ≡ c.args.start → GetsTurnIn c.args.graph.now.moves.items c.args.walk.now v.thread) moves i
    (record { from = 0; thread = 0; next = 0 }) within
    c.loop-m.invariant
    (elim c.else-m-start.branch [
      | else-m-start-via-then-m-start+in_ok-gets_turn+else-not-branch w ↦ λ _.
          subst (λ ms. GetsTurnIn ms c.args.walk.now (move_at moves i).thread) c.as_slice-moves.ensures.value
          (w.in_ok-gets_turn.ensures.0 w.if-not-branch.false)
      | else-m-start-via-else-m-start w ↦ λ e. absurd (w.if-m-start.false e)
    ])

pub returns : goal.returns
returns c =
    let P = λ (v : Move). v.from ≡ c.args.start → GetsTurnIn c.args.graph.now.moves.items c.args.walk.now v.thread in (
      λ _ t can. All-contains P c.args.graph.now.moves.items _
          (subst (All P) c.as_slice-moves.ensures.value (past P c.loop-m.m-index c.as_slice-moves.result.now (omega arith) c.loop-m.invariant)) can.is refl,
      λ _. refl,
    )
