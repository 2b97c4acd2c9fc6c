use Rattle.std.proofs.Common.{length, refl}
use Rattle.std.proofs.lemmas.Option.{slice_get_read}
use Rattle.search_reach.proofs.Choosing.{none-leads, one-leads}
use Rattle.search_reach.proofs.path.move_to.Goals as goal

pub returns-then-place-moves : goal.returns-then-place-moves
returns-then-place-moves c =
    let ways = c.args.ways.now in
    let found = c.in-Some.ensures.lookup in
    let at = slice_get_read ways (length ways) c.args.state c.in-Some.place.now refl found.3.0 found.1 in
    none-leads c.args.moves.now ways c.requires c.args.state c.in-Some.place.now at c.if-place-moves.true

pub returns : goal.returns
returns c =
    let ways = c.args.ways.now in
    let found = c.in-Some.ensures.lookup in
    let at = slice_get_read ways (length ways) c.args.state c.in-Some.place.now refl found.3.0 found.1 in
    one-leads c.args.moves.now ways c.requires c.args.state c.in-Some.place.now at c.if-place-moves.false
