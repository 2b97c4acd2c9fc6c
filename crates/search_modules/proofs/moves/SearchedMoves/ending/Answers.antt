use Rattle.search_modules.proofs.Told.{end_told, end_asked}
use Rattle.search_modules.proofs.moves.SearchedMoves.ending.Goals as goal

pub ending_at-requires : goal.ending_at-requires
ending_at-requires c =
    let r = c.requires in
    (r.0, r.1, end_asked c.args.self.now c.as_slice.result.now c.as_slice.ensures.value r.0 r.2)

pub returns : goal.returns
returns c = end_told c.args.self.now c.as_slice.result.now c.as_slice.ensures.value c.args.shared.now c.args.each.now c.ending_at.result c.ending_at.ensures
