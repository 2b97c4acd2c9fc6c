use Rattle.std.proofs.Common.{get_or, refl}
use Rattle.show_events.specs.Events.{AddsEvent}
use Rattle.show_events.proofs.Behind.{lines_more}
use Rattle.show_events.proofs.Events.{in_turn_next}
use Rattle.show_events.proofs.write.write_entries.Goals as goal

pub loop-place-preserved : goal.loop-place-preserved
loop-place-preserved g c = record {
  lines = lines_more _ _ _ _ c.loop-place.invariant.lines c.in_ok-write_entry.ensures.line;
  which = in_turn_next (AddsEvent c.args.shown c.args.story.now) c.args.chosen.now c.loop-place.place 0
      (get_or c.args.chosen.now c.loop-place.place 0) c.loop-place-test.true refl _ _ _ c.loop-place.invariant.which
      c.in_ok-write_entry.ensures.which;
}
