use Rattle.std.proofs.Common.{◌∙◌, ◌≡◌, ◌<◌, ◌⊎◌, ◌↔◌, ℕ, Contains, length}
use Rattle.std.proofs.lemmas.Result.{IfOk-weaker}
use Rattle.search_graph.specs.Graph.{CanEnd, CannotEnd}
use Rattle.search_graph.specs.Marking.{AreUnmarked}
use Rattle.search_graph.proofs.Reaching.{exactly, others}
use Rattle.search_graph.proofs.ends.cannot_end.Goals as goal

pub returns-clause-exact : goal.returns-clause-exact
returns-clause-exact c =
    let moves = c.args.graph.now.moves.items in
    let states = c.args.graph.now.states in
    let marks = c.mark_ends.new.marks in
    let len : length marks ≡ states = c.mark_ends.auto.marks ∙ (c.as_mut_slice-marks.ensures.len ∙ (c.in_ok-room.ensures.len ∙ c.requires.marks)) in
    IfOk-weaker c.unmarked.result (λ v. AreUnmarked marks (length marks) v.items)
    (λ v. (s : ℕ) → Contains v.items s ↔ CannotEnd moves c.args.ended.now states s)
    (λ v. exactly moves c.args.ended.now marks states v.items len c.in_ok-mark_ends.ensures) c.unmarked.ensures.found

pub returns-clause-others : goal.returns-clause-others
returns-clause-others c =
    let moves = c.args.graph.now.moves.items in
    let states = c.args.graph.now.states in
    let marks = c.mark_ends.new.marks in
    let len : length marks ≡ states = c.mark_ends.auto.marks ∙ (c.as_mut_slice-marks.ensures.len ∙ (c.in_ok-room.ensures.len ∙ c.requires.marks)) in
    IfOk-weaker c.unmarked.result (λ v. AreUnmarked marks (length marks) v.items)
    (λ v. (s : ℕ) → s < states → Contains v.items s ⊎ CanEnd moves c.args.ended.now s)
    (λ v. others moves c.args.ended.now marks states v.items len c.in_ok-mark_ends.ensures) c.unmarked.ensures.found
