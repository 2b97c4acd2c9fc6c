use Rattle.show_events.specs.Run.{Adds}
use Rattle.show_events.proofs.Behind.{lines_more}
use Rattle.show_events.proofs.Events.{in_turn_next}
use Rattle.show_events.proofs.run.write_each.Goals as goal

pub loop-place-preserved : goal.loop-place-preserved
loop-place-preserved g c = record {
  lines = lines_more _ _ _ _ c.loop-place.invariant.lines c.in_ok-write_item.ensures.line;
  which = in_turn_next (Adds g.T.PageLine.json) c.args.all.now c.loop-place.place c.index-all-place.result
      c.index-all-place.result c.loop-place-test.true c.index-all-place.is _ _ _
      c.loop-place.invariant.which c.in_ok-write_item.ensures.which;
}
