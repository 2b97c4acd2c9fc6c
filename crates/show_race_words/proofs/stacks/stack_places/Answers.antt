use Rattle.std.proofs.Common.{refl}
use Rattle.show_race_words.proofs.Stacking.{places_next, places_of_all}
use Rattle.show_race_words.proofs.stacks.stack_places.Goals as goal

pub loop-at-preserved : goal.loop-at-preserved
loop-at-preserved c = places_next c.args.shown c.as_slice-pairs.result.now c.loop-at.at _ _ c.loop-at.places.items _
    c.loop-at-test.true refl c.loop-at.invariant c.in_ok-add_places.ensures

pub returns : goal.returns
returns c = places_of_all c.args.shown c.as_slice-pairs.result.now c.loop-at.at c.args.races.now.pairs.items
    c.loop-at.places.items c.loop-at-test.false c.as_slice-pairs.ensures.value c.loop-at.invariant
