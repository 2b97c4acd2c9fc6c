use Rattle.std.proofs.Common.{ℕ, ◌+◌, ◌<◌, length, get_or, take, arith, subst, sym}
use Rattle.std.proofs.lemmas.List.{get_or_default}
use Rattle.std.proofs.lemmas.List.Elements.{all_zip_more}
use Rattle.search_reach.specs.Moved.{IsChoiceOf, AreChoicesOf}
use Rattle.search_reach.proofs.path.choices_of.Goals as goal

pub loop-place-preserved : goal.loop-place-preserved
loop-place-preserved c =
    let moves = c.args.moves.now in
    let places = c.args.places.now in
    let at = c.loop-place.place-index in
    let low : at < length places = omega arith in
    let place : ℕ = get_or places at 0 in
    subst (λ l. AreChoicesOf moves (take (at + 1) places) l) (sym c.in_ok-push.ensures.items)
    (all_zip_more (IsChoiceOf moves) places c.loop-place.choices.items at place c.choice_of.result low (get_or_default places at 0 place low)
    c.loop-place.invariant c.choice_of.ensures)
