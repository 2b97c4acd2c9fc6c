use Rattle.std.proofs.Common.{arith, ap, ◌∙◌}
use Rattle.std.specs.List.{slice_get}
use Rattle.std.proofs.lemmas.Option.{slice_get-get_or, slice_get_within, get_or_from_slice_get}
use Rattle.search_graph.specs.Graph.{move_at}
use Rattle.search_reach.proofs.Choosing.{ways-kept, ways-set}
use Rattle.search_reach.proofs.path.note_way.Goals as goal
use Rattle.search_reach.proofs.path.note_way.Goals.{then-m-via-then-m, then-m-via-else-m+then-to-len}

pub returns-then-m-clause-ways : goal.returns-then-m-clause-ways
returns-then-m-clause-ways c =
    let moves = c.args.moves.now in
    let place = c.args.place in
    let ways = c.args.ways.now in
    ways-kept moves place (move_at moves place) (slice_get-get_or moves place _ c.requires.within) ways.items c.requires.ways
    (λ to next lower at. (let within = slice_get_within ways.items to _ at in elim c.then-m.branch [
      | then-m-via-then-m w ↦ omega (arith, next, lower, w.if-m.true)
      | then-m-via-else-m+then-to-len w ↦ omega (arith, next, within, w.if-to-len.true, w.len.ensures, ways.ok)
    ]))

pub returns-then-index-moves-clause-ways : goal.returns-then-index-moves-clause-ways
returns-then-index-moves-clause-ways c =
    let moves = c.args.moves.now in
    let place = c.args.place in
    ways-set moves place (move_at moves place) (slice_get-get_or moves place _ c.requires.within) c.args.ways.now.items c.if-m.false c.requires.ways

pub returns-else-index-moves-clause-ways : goal.returns-else-index-moves-clause-ways
returns-else-index-moves-clause-ways c =
    let moves = c.args.moves.now in
    let place = c.args.place in
    let ways = c.args.ways.now in
    ways-kept moves place (move_at moves place) (slice_get-get_or moves place _ c.requires.within) ways.items c.requires.ways
    (λ to next lower at. c.if-index-moves.false
    (c.index.ensures ∙ get_or_from_slice_get ways.items (move_at moves place).next _ c.index.result.now (ap (slice_get ways.items) next ∙ at)))
