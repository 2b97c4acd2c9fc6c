use Rattle.std.proofs.Common.{length}
use Rattle.std.proofs.lemmas.Option.{slice_get-get_or, slice_get_within}
use Rattle.search_graph.specs.Graph.{move_at}
use Rattle.search_reach.proofs.Choosing.{path-more}
use Rattle.search_reach.proofs.path.path_to.Goals as goal

pub loop-place-preserved : goal.loop-place-preserved
loop-place-preserved c =
    let moves = c.args.moves.now in
    let place = c.in-Some.place in
    let leads = c.in-Some.ensures in
    path-more moves (length c.args.ways.now) c.loop-place.at c.args.state c.loop-place.path.items c.push.new.self.items place c.choice_of.result
    (move_at moves place) leads (slice_get-get_or moves place _ (slice_get_within moves place leads.move leads.at)) c.choice_of.ensures
    c.in_ok-push.ensures.items c.loop-place.invariant
