use Rattle.std.proofs.lemmas.Bool.{not-false}
use Rattle.search_modules.proofs.Following.{comes_after}
use Rattle.search_modules.specs.Moved.{called}
use Rattle.search_modules.proofs.moves.SearchedMoves.hears.Goals as goal

pub returns : goal.returns
returns c quiet t =
    let s = c.args.self.now in
    let untouched = c.is_untouched.ensures.untouched (not-false c.is_untouched.result quiet) in
    comes_after s c.args.made.now c.args.n c.args.m t t
    (λ z e after. untouched s.valid.now s.worker t.standing (called s) z e after)
