use Rattle.std.proofs.Common.{◌∙◌, get_or, refl}
use Rattle.std.proofs.lemmas.List.{get_or_default, length-set}
use Rattle.show_events.proofs.Among.{among_next}
use Rattle.show_events.proofs.write.threads_among.Goals as goal

pub loop-place-preserved : goal.loop-place-preserved
loop-place-preserved c =
    let place = c.loop-place.place in
    let at = get_or c.args.chosen.now place 0 in
    let within = c.requires place 0 c.loop-place-test.true in
    record {
      long = length-set c.loop-place.among.items at _ ∙ c.loop-place.invariant.long;
      are = among_next c.args.log.now c.args.chosen.now place 0 at _ c.loop-place.among.items _ c.loop-place-test.true refl within
          c.loop-place.invariant.long (get_or_default c.args.log.now at _ _ within) refl c.loop-place.invariant.are;
    }
