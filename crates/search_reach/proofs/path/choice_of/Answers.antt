use Rattle.std.proofs.Common.{◌-◌, length, arith, refl}
use Rattle.std.proofs.lemmas.Option.{slice_get-get_or, slice_get_read}
use Rattle.search_graph.specs.Graph.{move_at}
use Rattle.search_reach.proofs.Choosing.{from-more, choice-is}
use Rattle.search_reach.proofs.path.choice_of.Goals as goal

pub returns-then-moves-place : goal.returns-then-moves-place
returns-then-moves-place c =
    let moves = c.args.moves.now in
    let place = c.args.place in
    let choice = c.loop-choice.choice in
    let found = c.in-Some.ensures.lookup in
    let within = found.3.0 in
    let at = slice_get_read moves (length moves) place c.in-Some.m.now refl within found.1 in
    choice-is moves place choice c.in-Some.m.now at c.loop-choice.invariant.low c.loop-choice.invariant.are
    (λ less. (move_at moves (place - choice - 1), slice_get-get_or moves (place - choice - 1) _ (omega (arith, within)), c.if-moves-place.true))

pub loop-choice-preserved : goal.loop-choice-preserved
loop-choice-preserved c =
    let moves = c.args.moves.now in
    let place = c.args.place in
    let choice = c.loop-choice.choice in
    let within = c.in-Some.ensures.lookup.3.0 in
    record {
      low = omega arith;
      are = from-more moves place c.in-Some.m.now.from choice (move_at moves (place - choice - 1)) (omega arith)
          (slice_get-get_or moves (place - choice - 1) _ (omega (arith, within))) c.if-moves-place.false c.loop-choice.invariant.are;
    }

pub returns : goal.returns
returns c =
    let moves = c.args.moves.now in
    let found = c.in-Some.ensures.lookup in
    let at = slice_get_read moves (length moves) c.args.place c.in-Some.m.now refl found.3.0 found.1 in
    choice-is moves c.args.place c.loop-choice.choice c.in-Some.m.now at c.loop-choice.invariant.low c.loop-choice.invariant.are
    (λ less. absurd (omega (arith, less)))
