use Rattle.search_modules.proofs.Told.{event_told}
use Rattle.search_modules.proofs.moves.SearchedMoves.event.Goals as goal

pub returns : goal.returns
returns c =
    event_told c.args.self.now c.as_slice.result.now c.as_slice.ensures.value c.args.shared.now c.walker.result.now c.args.thread.now
    c.walker.ensures c.args.n c.make_event.result c.make_event.ensures
