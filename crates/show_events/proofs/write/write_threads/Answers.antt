use Rattle.std.proofs.Common.{get_or, refl}
use Rattle.show_events.specs.Events.{AddsName}
use Rattle.show_events.proofs.Behind.{lines_more}
use Rattle.show_events.proofs.Events.{in_turn_next}
use Rattle.show_events.proofs.write.write_threads.Goals as goal

pub loop-place-preserved : goal.loop-place-preserved
loop-place-preserved g c = record {
  lines = lines_more _ _ _ _ c.loop-place.invariant.lines c.in_ok-write_thread.ensures.line;
  which = in_turn_next AddsName c.args.threads.now c.loop-place.place 0 (get_or c.args.threads.now c.loop-place.place 0)
      c.loop-place-test.true refl _ _ _ c.loop-place.invariant.which c.in_ok-write_thread.ensures.which;
}
