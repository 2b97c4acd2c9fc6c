use Rattle.std.proofs.Common.{◌≡◌, ◌<◌, ◌↔◌, ◌∙◌, ℕ, IsTrue, All, List, length, ap, subst, sym, refl}
use Rattle.std.proofs.lemmas.Option.{MatchOption-at_some}
use Rattle.std.proofs.lemmas.Result.{IfOk-weaker}
use Rattle.std.proofs.lemmas.List.Elements.{All-same}
use Rattle.search_graph.specs.declared.graph.Move.{Move}
use Rattle.search_graph.specs.Graph.{IsWithin, CanMove}
use Rattle.search_graph.specs.Round.{moves_at, IsRound, GetsTurnIn, IsFairRound}
use Rattle.search_graph.specs.Runs.{HasFairCycle}
use Rattle.search_graph.proofs.Around.{round-cycle}
use Rattle.search_graph.proofs.Checked.{within-states}
use Rattle.search_graph.proofs.cycles.is_fair_cycle.Goals as goal

module _ (moves : List Move) (start : ℕ) (indices : List ℕ) (walk : List Move) (is : walk ≡ moves_at moves indices)
    (within : All (λ k. k < length moves) indices) (round : IsRound start walk) where
  fair-round : ((t : ℕ) → CanMove moves start t → GetsTurnIn moves walk t) → IsFairRound moves start indices
  fair-round turns = record {
    within = within;
    round = subst (IsRound start) is round;
    turns = λ t can. subst (λ w. GetsTurnIn moves w t) is (turns t can);
  }

  all-turns : IsFairRound moves start indices → (t : ℕ) → CanMove moves start t → GetsTurnIn moves walk t
  all-turns r t can = subst (λ w. GetsTurnIn moves w t) (sym is) (r.turns t can)

pub all_get_turns-requires-clause-walk : goal.all_get_turns-requires-clause-walk
all_get_turns-requires-clause-walk c =
    let moves = c.args.graph.now.moves.items in
    let states = c.args.graph.now.states in
    let indices = c.args.walk.now in
    let is : c.in-Some.made.items ≡ moves_at c.as_slice.result.now indices = MatchOption-at_some _ _ c.in-Some.made c.in-Some.is c.in_ok-made.ensures.is in
    let within : All (λ k. k < length c.as_slice.result.now) indices = MatchOption-at_some _ _ c.in-Some.made c.in-Some.is c.in_ok-made.ensures.within in
    All-same (IsWithin states) c.as_slice-made.result.now (moves_at moves indices)
    (c.as_slice-made.ensures.value ∙ (is ∙ ap (λ ms. moves_at ms indices) c.as_slice.ensures.value))
    (within-states moves states indices c.requires (subst (λ ms. All (λ k. k < length ms) indices) c.as_slice.ensures.value within))

pub returns-clause-exact : goal.returns-clause-exact
returns-clause-exact c =
    let moves = c.args.graph.now.moves.items in
    let walk = c.as_slice-made.result.now in
    let indices = c.args.walk.now in
    let start = c.args.start in
    let found : c.in-Some.made.items ≡ moves_at c.as_slice.result.now indices = MatchOption-at_some _ _ c.in-Some.made c.in-Some.is c.in_ok-made.ensures.is in
    let is : walk ≡ moves_at moves indices = c.as_slice-made.ensures.value ∙ (found ∙ ap (λ ms. moves_at ms indices) c.as_slice.ensures.value) in
    let known : All (λ k. k < length c.as_slice.result.now) indices = MatchOption-at_some _ _ c.in-Some.made c.in-Some.is c.in_ok-made.ensures.within in
    let within : All (λ k. k < length moves) indices = subst (λ ms. All (λ k. k < length ms) indices) c.as_slice.ensures.value known in
    let round : IsRound start walk = c.if-not-is_round.ensures.0 refl in
    IfOk-weaker c.all_get_turns.result (λ yes. IsTrue yes ↔ ((t : ℕ) → CanMove moves start t → GetsTurnIn moves walk t))
    (λ yes. IsTrue yes ↔ IsFairRound moves start indices)
    (λ yes e. (λ h. fair-round moves start indices walk is within round (e.0 h), λ r. e.1 (all-turns moves start indices walk is within round r)))
    c.all_get_turns.ensures

pub returns-clause-cycle : goal.returns-clause-cycle
returns-clause-cycle c =
    let moves = c.args.graph.now.moves.items in
    IfOk-weaker c.all_get_turns.result (λ yes. IsTrue yes ↔ IsFairRound moves c.args.start c.args.walk.now)
    (λ yes. IsTrue yes → HasFairCycle moves c.args.start (moves_at moves c.args.walk.now)) (λ yes e h. round-cycle moves c.args.start c.args.walk.now (e.0 h))
    (returns-clause-exact c)
