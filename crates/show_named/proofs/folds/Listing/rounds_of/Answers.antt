use Rattle.std.proofs.Common.{arith, refl}
use Rattle.show_named.proofs.Folded.{next_round}
use Rattle.show_named.proofs.folds.Listing.rounds_of.Goals as goal

pub loop-preserved : goal.loop-preserved
loop-preserved c =
    let s = c.args.self.now in
    record {
      are = next_round s.shown s.map.now s.story.now c.args.places.now c.loop.rounds c.args.size c.loop.invariant.are
          c.loop.invariant.length (c.if-not-goes_on.ensures.within refl) (c.if-not-goes_on.ensures.repeats refl);
      length = refl;
      often = omega (arith, c.loop.invariant.often, c.requires.some);
    }
